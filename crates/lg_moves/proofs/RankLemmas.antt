-- Lists of moves in the order of ranks.
use Rattle.std.proofs.Common.{◌≡◌, ℕ, suc, ◌+◌, ◌-◌, ◌<◌, true, false, List, [], ◌∷◌, ◌++◌, length, take, drop, get_or, refl, arith, ap, sym, subst, append_assoc, length-append, zero}
use Rattle.std.specs.List.{sum_by, insert}
use Rattle.std.proofs.lemmas.List.{drop_more, take_more, take-append-drop}
use Rattle.std.proofs.lemmas.List.Sums.{sum_by-append, sum_by-cons}
use Rattle.lg_types.specs.declared.moves.Move.{Move}
use Rattle.lg_moves.specs.declared.bounds.Bound.TheVariants.{RankTo, RankBefore}
use Rattle.lg_moves.specs.Bounds.{is_near, key_of, passes}
use Rattle.lg_moves.specs.Ranks.{IsUpToMove, Each, IsRising, Inserts}
use Rattle.lg_moves.proofs.BoundLemmas.{near_by_rank, near_from_before, near_from_to, near_from_far}

pub same_move : (x : Move) → IsUpToMove x x
same_move x = record { on = λ b r n. n }

pub move_then : {x y z : Move} → IsUpToMove x y → IsUpToMove y z → IsUpToMove x z
move_then h k = record { on = λ b r n. h.on b r (k.on b r n) }

-- what a comparison of two moves' ranks says
pub up_from_to : (x m : Move) → passes (RankTo m.effective m.transaction) x ≡ true → IsUpToMove x m
up_from_to x m h = record { on = λ b r n. near_from_to b (key_of x) (key_of m) r h n }

pub up_from_far : (x m : Move) → passes (RankTo m.effective m.transaction) x ≡ false → IsUpToMove m x
up_from_far x m h = record { on = λ b r n. near_from_far b (key_of m) (key_of x) r h n }

pub up_from_before : (x m : Move) → is_near (RankBefore m.effective m.transaction) (key_of x) ≡ true → IsUpToMove x m
up_from_before x m h = record { on = λ b r n. near_from_before b (key_of x) (key_of m) r h n }

pub up_from_not_before : (x m : Move) → is_near (RankBefore m.effective m.transaction) (key_of x) ≡ false → IsUpToMove m x
up_from_not_before x m h = record { on = λ b r n. near_by_rank b (key_of m) (key_of x) r h n }

pub each_append : (P : Move → Type 0) (xs ys : List Move) → Each P xs → Each P ys → Each P (xs ++ ys)
each_append P [] ys a b = b
each_append P (x ∷ xs) ys a b = (a.0, each_append P xs ys a.1 b)

pub each_left : (P : Move → Type 0) (xs ys : List Move) → Each P (xs ++ ys) → Each P xs
each_left P [] ys a = tt
each_left P (x ∷ xs) ys a = (a.0, each_left P xs ys a.1)

pub each_right : (P : Move → Type 0) (xs ys : List Move) → Each P (xs ++ ys) → Each P ys
each_right P [] ys a = a
each_right P (x ∷ xs) ys a = each_right P xs ys a.1

pub each_weaker : (P Q : Move → Type 0) → ((x : Move) → P x → Q x) → (xs : List Move) → Each P xs → Each Q xs
each_weaker P Q f [] a = tt
each_weaker P Q f (x ∷ xs) a = (f x a.0, each_weaker P Q f xs a.1)

pub each_both : (P Q : Move → Type 0) (xs : List Move) → Each P xs → Each Q xs → Each (λ x. P x × Q x) xs
each_both P Q [] a b = tt
each_both P Q (x ∷ xs) a b = ((a.0, b.0), each_both P Q xs a.1 b.1)

pub each_at : (P : Move → Type 0) (xs : List Move) (i : ℕ) (d : Move) → i < length xs → Each P xs → P (get_or xs i d)
each_at P [] i d lt a = absurd (omega arith)
each_at P (x ∷ xs) zero d lt a = a.0
each_at P (x ∷ xs) (suc i) d lt a = each_at P xs i d (omega arith) a.1

-- what is not after one move isn't after what follows it
pub each_from : (m x : Move) (ys : List Move) → IsUpToMove m x → Each (IsUpToMove x) ys → Each (IsUpToMove m) ys
each_from m x ys h a = each_weaker (IsUpToMove x) (IsUpToMove m) (λ y k. move_then h k) ys a

pub each_until : (m x : Move) (ys : List Move) → IsUpToMove x m → Each (λ y. IsUpToMove y x) ys → Each (λ y. IsUpToMove y m) ys
each_until m x ys h a = each_weaker (λ y. IsUpToMove y x) (λ y. IsUpToMove y m) (λ y k. move_then k h) ys a

pub rising_left : (xs ys : List Move) → IsRising (xs ++ ys) → IsRising xs
rising_left [] ys r = tt
rising_left (x ∷ xs) ys r = (each_left (IsUpToMove x) xs ys r.0, rising_left xs ys r.1)

pub rising_right : (xs ys : List Move) → IsRising (xs ++ ys) → IsRising ys
rising_right [] ys r = r
rising_right (x ∷ xs) ys r = rising_right xs ys r.1

pub rising_across : (xs ys : List Move) → IsRising (xs ++ ys) → Each (λ x. Each (IsUpToMove x) ys) xs
rising_across [] ys r = tt
rising_across (x ∷ xs) ys r = (each_right (IsUpToMove x) xs ys r.0, rising_across xs ys r.1)

pub rising_join : (xs ys : List Move) → IsRising xs → IsRising ys → Each (λ x. Each (IsUpToMove x) ys) xs → IsRising (xs ++ ys)
rising_join [] ys r s a = s
rising_join (x ∷ xs) ys r s a = (each_append (IsUpToMove x) xs ys r.0 a.0, rising_join xs ys r.1 s a.1)

-- all moves of a rising list before a place are not after the move there, and it isn't after the later ones
pub each_before : (xs : List Move) (m : Move) (ys : List Move) → IsRising (xs ++ m ∷ ys) → Each (λ x. IsUpToMove x m) xs
each_before xs m ys r = each_weaker (λ x. Each (IsUpToMove x) (m ∷ ys)) (λ x. IsUpToMove x m) (λ x a. a.0) xs (rising_across xs (m ∷ ys) r)

pub each_after : (xs : List Move) (m : Move) (ys : List Move) → IsRising (xs ++ m ∷ ys) → Each (IsUpToMove m) ys
each_after xs m ys r = (rising_right xs (m ∷ ys) r).0

-- a rising list stays so
pub rising_inserts : (m : Move) (old new : List Move) → Inserts m old new → IsRising old → IsRising new
rising_inserts m old new w r =
    let s : IsRising (w.front ++ w.back) = subst IsRising w.was r in
    let a = each_both (λ x. IsUpToMove x m) (λ x. Each (IsUpToMove x) w.back) w.front w.before (rising_across w.front w.back s) in
    rw w.is (rising_join w.front (m ∷ w.back) (rising_left w.front w.back s) (w.after, rising_right w.front w.back s) a)

-- an insertion into a part of a list
pub inserts_left : (m : Move) (old new rest : List Move) → Inserts m old new → Each (IsUpToMove m) rest → Inserts m (old ++ rest) (new ++ rest)
inserts_left m old new rest w a = record {
  front = w.front;
  back = w.back ++ rest;
  was = rw w.was (append_assoc w.front w.back rest);
  is = rw w.is (append_assoc w.front (m ∷ w.back) rest);
  before = w.before;
  after = each_append (IsUpToMove m) w.back rest w.after a;
}

pub inserts_right : (m : Move) (head old new : List Move) → Inserts m old new → Each (λ x. IsUpToMove x m) head → Inserts m (head ++ old) (head ++ new)
inserts_right m head old new w a = record {
  front = head ++ w.front;
  back = w.back;
  was = rw w.was (sym (append_assoc head w.front w.back));
  is = rw w.is (sym (append_assoc head w.front (m ∷ w.back)));
  before = each_append (λ x. IsUpToMove x m) head w.front a w.before;
  after = w.after;
}

-- an insertion adds the move's parts and one to the length
pub sum_by_inserts : (part : Move → ℕ) (m : Move) (old new : List Move) → Inserts m old new → sum_by part new ≡ sum_by part old + part m
sum_by_inserts part m old new w =
    omega (arith, ap (sum_by part) w.was, ap (sum_by part) w.is, sum_by-append part w.front w.back, sum_by-append part w.front (m ∷ w.back), sum_by-cons part m w.back)

pub length_inserts : (m : Move) (old new : List Move) → Inserts m old new → length new ≡ length old + 1
length_inserts m old new w =
    omega (arith, ap length w.was, ap length w.is, length-append w.front w.back, length-append w.front (m ∷ w.back))

-- a move at a place of a list
pub inserts_at : (m : Move) (xs : List Move) (i : ℕ) → Each (λ x. IsUpToMove x m) (take i xs) → Each (IsUpToMove m) (drop i xs) → Inserts m xs (insert xs i m)
inserts_at m xs i a b = record {
  front = take i xs;
  back = drop i xs;
  was = sym (take-append-drop i xs);
  is = refl;
  before = a;
  after = b;
}

-- one more move before a place
pub each_take_more : (P : Move → Type 0) (xs : List Move) (i : ℕ) (d : Move) → i < length xs → Each P (take i xs) → P (get_or xs i d) → Each P (take (i + 1) xs)
each_take_more P xs i d lt a p = rw (take_more xs i d lt) (each_append P (take i xs) (get_or xs i d ∷ []) a (p, tt))

-- from a place on no move is before what isn't after the move there
pub each_drop_from : (m : Move) (xs : List Move) (i : ℕ) (d : Move) → i < length xs → IsRising xs → IsUpToMove m (get_or xs i d) → Each (IsUpToMove m) (drop i xs)
each_drop_from m xs i d lt r h =
    let s : IsRising (take i xs ++ drop i xs) = rw (take-append-drop i xs) r in
    let t : IsRising (get_or xs i d ∷ drop (i + 1) xs) = rw (drop_more xs i d lt) at (rising_right (take i xs) (drop i xs) s) in
    rw (drop_more xs i d lt) (h, each_from m (get_or xs i d) (drop (i + 1) xs) h t.0)

-- what is not after the first of a rising list isn't after any of it
pub each_first : (m : Move) (ys : List Move) → IsRising ys → 0 < length ys → ((d : Move) → IsUpToMove m (get_or ys 0 d)) → Each (IsUpToMove m) ys
each_first m [] r some h = tt
each_first m (y ∷ ys) r some h = (h y, each_from m y ys (h y) r.0)

-- all before the first of a later part are not after what that first isn't after
pub each_until_first : (m : Move) (xs ys : List Move) → IsRising (xs ++ ys) → 0 < length ys → ((d : Move) → IsUpToMove (get_or ys 0 d) m) → Each (λ x. IsUpToMove x m) xs
each_until_first m xs [] r some h = absurd (omega arith)
each_until_first m xs (y ∷ ys) r some h = each_until m y xs (h y) (each_before xs y ys r)

-- all of a rising list are not after what its last isn't after
pub each_last : (m : Move) (xs : List Move) → IsRising xs → 0 < length xs → ((d : Move) → IsUpToMove (get_or xs (length xs - 1) d) m) → Each (λ x. IsUpToMove x m) xs
each_last m [] r some h = tt
each_last m (x ∷ []) r some h = (h x, tt)
each_last m (x ∷ (y ∷ xs)) r some h =
    let k : length (y ∷ xs) ≡ suc (length (y ∷ xs) - 1) = omega arith in
    let rest = each_last m (y ∷ xs) r.1 (omega arith) (λ d. subst (λ (n : ℕ). IsUpToMove (get_or (x ∷ (y ∷ xs)) n d) m) (last_place x (y ∷ xs) (omega arith)) (h d)) in
    (move_then r.0.0 rest.0, rest)
  where
    last_place : (x : Move) (ys : List Move) → 0 < length ys → length (x ∷ ys) - 1 ≡ suc (length ys - 1)
    last_place x ys some = omega arith

-- what its last isn't before isn't after what follows
pub each_after_last : (m : Move) (xs ys : List Move) → IsRising (xs ++ ys) → 0 < length xs → ((d : Move) → IsUpToMove m (get_or xs (length xs - 1) d)) → Each (IsUpToMove m) ys
each_after_last m [] ys r some h = absurd (omega arith)
each_after_last m (x ∷ []) ys r some h = each_from m x ys (h x) r.0
each_after_last m (x ∷ (z ∷ xs)) ys r some h =
    each_after_last m (z ∷ xs) ys r.1 (omega arith) (λ d. subst (λ (n : ℕ). IsUpToMove m (get_or (x ∷ (z ∷ xs)) n d)) (last_place x (z ∷ xs) (omega arith)) (h d))
  where
    last_place : (x : Move) (ws : List Move) → 0 < length ws → length (x ∷ ws) - 1 ≡ suc (length ws - 1)
    last_place x ws some = omega arith

-- an insertion into the first part of a list cut in two, and into the second
pub inserts_lower : (m : Move) (xs low new high : List Move) (n : ℕ) → low ≡ take n xs → high ≡ drop n xs → Inserts m low new → Each (IsUpToMove m) high → Inserts m xs (new ++ high)
inserts_lower m xs low new high n l h w a =
    subst (λ (z : List Move). Inserts m z (new ++ high)) (rw (l, h) (take-append-drop n xs)) (inserts_left m low new high w a)

pub inserts_upper : (m : Move) (xs low high new : List Move) (n : ℕ) → low ≡ take n xs → high ≡ drop n xs → Inserts m high new → Each (λ x. IsUpToMove x m) low → Inserts m xs (low ++ new)
inserts_upper m xs low high new n l h w a =
    subst (λ (z : List Move). Inserts m z (low ++ new)) (rw (l, h) (take-append-drop n xs)) (inserts_right m low high new w a)

-- the parts of a rising list cut in two
pub rising_take : (xs : List Move) (n : ℕ) → IsRising xs → IsRising (take n xs ++ drop n xs)
rising_take xs n r = rw (take-append-drop n xs) r
