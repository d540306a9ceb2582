-- The route of a path: what is found among the routes, one after the other.
use Rattle.std.proofs.Common.{◌≡◌, ℕ, ◌+◌, ◌<◌, Bool, true, false, ◌&&◌, cond, List, [], ◌∷◌, map, length, Option, Some, None, refl, ap, sym, subst, ◌∙◌, arith}
use Rattle.std.specs.List.{find, filter, list_all}
use Rattle.std.proofs.lemmas.Grind.{common_steps}
use Rattle.lg_readings.specs.Routes as views
use Rattle.lg_routes.specs.Table.{found_in}

and_false : (b : Bool) → (b && false) ≡ false
and_false true = refl
and_false false = refl

-- paths of different lengths don't fit
pub differs : (ps : List views.Segment) (ss : List (List ℕ)) → ¬ (length ps ≡ length ss) → views.fits_path ps ss ≡ false
differs [] [] h = absurd (h refl)
differs [] (s ∷ ss) h = refl
differs (p ∷ ps) [] h = refl
differs (p ∷ ps) (s ∷ ss) h = ap (λ (b : Bool). views.segment_fits p s && b) (differs ps ss (λ e. h (grind (arith, common_steps, e)))) ∙ and_false (views.segment_fits p s)

module _ (segments : List (List ℕ)) (method : List ℕ) where
  -- what is found among the routes that are left, where a route of the path was seen or none
  abbrev pub goes_on : Bool → List views.Route → Option (Option views.Route)
  goes_on true left = Some (find (views.has_method method) left)
  goes_on false left = found_in left method

  abbrev pub of_path : List views.Route → List views.Route
  of_path routes = filter (views.has_path segments) routes
