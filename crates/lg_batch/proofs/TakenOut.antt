-- The body of a line, taken out of its members.
use Rattle.std.proofs.Common.{◌≡◌, ℕ, zero, suc, Bool, true, false, cond, List, [], ◌∷◌, length, Option, Some, None, position, refl, sym, ap, subst, ◌∙◌}
use Rattle.std.specs.Prelude.{slice_get, remove}
use Rattle.std.specs.List.{find, position_or_len}
use Rattle.std.specs.Option.{option_map}
use Rattle.std.specs.Str.{bytes_eq}
use Rattle.std.proofs.lemmas.List.Folds.{find_at}
use Rattle.std.proofs.lemmas.Option.{slice_get_past}
use Rattle.std.proofs.lemmas.Slice.Eq.{bytes_eq-Decides}
use Rattle.lg_codec.specs.Seen.{members_seen}
use Rattle.lg_codec.proofs.Onward.{entry_is}
use Rattle.lg_json.specs.Tree.{Tree, Entry, tree, entry}
use Rattle.lg_json.specs.Tree.Members.{member}
use Rattle.lg_json.specs.declared.json.Member.{Member}
use Rattle.lg_readings.specs.Values.{value_of}
use Rattle.lg_batch.proofs.Cuts.{place_some, place_none}

abbrev pub is_called : List ℕ → Member → Bool
is_called name m = bytes_eq m.name name

module _ (name : List ℕ) where
  chosen : (b : Bool) (m : Member) (rest : Option Member) → cond b (Some (tree m.value)) (option_map (λ x. tree x.value) rest) ≡ option_map (λ x. tree x.value) (cond b (Some m) rest)
  chosen true m rest = refl
  chosen false m rest = refl

  -- the value of the first member of the name
  value_found : (ms : List Member) → value_of name (members_seen ms) ≡ option_map (λ x. tree x.value) (find (is_called name) ms)
  value_found [] = refl
  value_found (m ∷ ms) =
      ap (λ (e : Entry). value_of name (member e.0 e.1 (members_seen ms))) (entry_is m)
      ∙ ap (λ (o : Option Tree). cond (is_called name m) (Some (tree m.value)) o) (value_found ms)
      ∙ chosen (is_called name m) m (find (is_called name) ms)

  first_passes : (x m : Member) (rest : Option Member) (b : Bool) → is_called name x ≡ b → (rest ≡ Some m → is_called name m ≡ true) → cond b (Some x) rest ≡ Some m → is_called name m ≡ true
  first_passes x m rest true is more e = let same : x ≡ m = cc in subst (λ (y : Member). is_called name y ≡ true) same is
  first_passes x m rest false is more e = more e

  passes : (ms : List Member) (m : Member) → find (is_called name) ms ≡ Some m → is_called name m ≡ true
  passes [] m e = absurd (let none : ◌≡◌ {A = Option Member} None (Some m) = e in cc)
  passes (x ∷ ms) m e = first_passes x m (find (is_called name) ms) (is_called name x) refl (passes ms m) e

  found : (ms : List Member) (k : ℕ) (m : Member) → position (is_called name) ms ≡ Some k → slice_get ms k ≡ Some m → find (is_called name) ms ≡ Some m
  found ms k m at item =
      find_at (is_called name) ms ∙ ap (slice_get ms) (place_some (position_or_len (is_called name) ms) (length ms) k at).0 ∙ item

  -- a member that was found has the value of the name
  pub value_at : (ms : List Member) (k : ℕ) (m : Member) → position (is_called name) ms ≡ Some k → slice_get ms k ≡ Some m → value_of name (members_seen ms) ≡ Some (tree m.value)
  value_at ms k m at item = value_found ms ∙ ap (option_map (λ x. tree x.value)) (found ms k m at item)

  pub value_nowhere : (ms : List Member) → position (is_called name) ms ≡ None → value_of name (members_seen ms) ≡ None
  value_nowhere ms absent =
      value_found ms ∙ ap (option_map (λ x. tree x.value)) (find_at (is_called name) ms ∙ slice_get_past ms (position_or_len (is_called name) ms) (place_none (position_or_len (is_called name) ms) (length ms) absent))

  -- and is called so
  pub called : (ms : List Member) (k : ℕ) (m : Member) → position (is_called name) ms ≡ Some k → slice_get ms k ≡ Some m → m.name ≡ name
  called ms k m at item = (bytes_eq-Decides m.name name).0 (passes ms m (found ms k m at item))

-- a member of another name is passed over
passed : (name : List ℕ) (m : Member) (ms : List Member) → is_called name m ≡ false → value_of name (members_seen (m ∷ ms)) ≡ value_of name (members_seen ms)
passed name m ms other =
    ap (λ (e : Entry). value_of name (member e.0 e.1 (members_seen ms))) (entry_is m)
    ∙ ap (λ (b : Bool). cond b (Some (tree m.value)) (value_of name (members_seen ms))) other

-- the other names keep their values
pub kept : (name : List ℕ) (ms : List Member) (k : ℕ) (m : Member) → slice_get ms k ≡ Some m → is_called name m ≡ false → value_of name (members_seen (remove ms k)) ≡ value_of name (members_seen ms)
kept name [] k m item other = absurd (let none : ◌≡◌ {A = Option Member} None (Some m) = item in cc)
kept name (x ∷ ms) zero m item other =
    let same : x ≡ m = cc in sym (passed name x ms (subst (λ (y : Member). is_called name y ≡ false) (sym same) other))
kept name (x ∷ ms) (suc k) m item other =
    ap (λ (o : Option Tree). cond (bytes_eq (entry x).0 name) (Some (entry x).1) o) (kept name ms k m item other)
