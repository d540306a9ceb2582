-- The text of a moment is a JSON string of that text.
use Rattle.std.proofs.Common.{◌≡◌, ℕ, suc, ◌≤◌, List, [], ◌∷◌, ◌++◌, refl, sym, ap, subst, arith}
use Rattle.std.specs.Prelude.{All, ℤ, ◌≤ℤ◌, ◌<ℤ◌, false}
use Rattle.std.specs.Ordering.{int_cmp, is_lt, MatchOrdering}
use Rattle.std.specs.Cmp.{int_ranks}
use Rattle.std.specs.declared.cmp.Ordering.{Ordering}
use Rattle.std.specs.declared.cmp.Ordering.TheVariants.{Less, Equal, Greater}
use Rattle.jiff_core.proofs.SignedLemmas.{signed_arith}
use Rattle.std.specs.Int.{IsInRange}
use Rattle.std.specs.List.{AllByRecursion}
use Rattle.lg_json.specs.Grammar.{IsString}
use Rattle.lg_time.specs.Canonical.{moment_text}
use Rattle.lg_time.specs.Moment.{IsInMoments}
use Rattle.lg_time.proofs.Facts.{moment_text-bytes}
use Rattle.lg_types.specs.Moments.{first_moment, last_moment, brought}
use Rattle.lg_types.specs.PartTexts.{date_text}
use Rattle.lg_entry_lines.proofs.Strings.{IsPlain, plain_is_string, plain_from}

not_below : (x y : ℤ) → y ≤ℤ x → is_lt (int_cmp x y) ≡ false
not_below x y h = go (int_cmp x y) (int_ranks x y)
  where
    go : (o : Ordering) → MatchOrdering o (x <ℤ y) (x ≡ y) (y <ℤ x) → is_lt o ≡ false
    go Less r = absurd (omega (arith, signed_arith))
    go Equal r = refl
    go Greater r = refl

-- a moment in the range stays as it is
pub brought_in : (moment : ℤ) → IsInMoments moment → brought moment ≡ moment
brought_in moment h =
    let above : is_lt (int_cmp moment first_moment) ≡ false = not_below moment first_moment h.0 in
    let below : is_lt (int_cmp last_moment moment) ≡ false = not_below last_moment moment h.1 in
    rw (above, below) refl

all_plain_bytes : (bs : List ℕ) → All (IsInRange 45 90) bs → AllByRecursion IsPlain bs
all_plain_bytes [] h = tt
all_plain_bytes (b ∷ bs) h =
    let low : 45 ≤ b = (h 0 0 (omega arith)).0 in
    let high : b ≤ 90 = (h 0 0 (omega arith)).1 in
    (plain_from b (omega arith) (omega arith) (omega arith) (omega arith), all_plain_bytes bs (λ k d lt. h (suc k) d (omega arith)))

pub moment_plain : (moment : ℤ) → IsInMoments moment → AllByRecursion IsPlain (moment_text moment)
moment_plain moment h = all_plain_bytes (moment_text moment) (moment_text-bytes moment h)

-- the text of a date in the range
pub date_is : (moment : ℤ) → IsInMoments moment → date_text moment ≡ (34 ∷ []) ++ (moment_text moment ++ (34 ∷ []))
unfolding date_text
date_is moment h = ap (λ (m : ℤ). (34 ∷ []) ++ (moment_text m ++ (34 ∷ []))) (brought_in moment h)

pub date_is_string : (moment : ℤ) → IsInMoments moment → IsString (moment_text moment) (date_text moment)
date_is_string moment h = subst (IsString (moment_text moment)) (sym (date_is moment h)) (plain_is_string (moment_text moment) (moment_plain moment h))
