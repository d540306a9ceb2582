-- The body and the call of a line's request.
use Rattle.std.proofs.Common.{◌≡◌, ◌⊎◌, ℕ, Bool, true, false, ◌&&◌, ◌||◌, cond, List, [], ◌∷◌, Option, Some, None, refl, sym, ap, subst, ◌∙◌, inl, inr}
use Rattle.std.specs.Prelude.{codes, MatchBool}
use Rattle.std.specs.List.{find, filter, list_any}
use Rattle.std.specs.Str.{bytes_eq}
use Rattle.std.proofs.lemmas.Bool.{false≢true}
use Rattle.std.proofs.lemmas.Slice.Eq.{bytes_eq-Decides}
use Rattle.lg_json.specs.Tree.{Tree}
use Rattle.lg_json.specs.Tree.Tree.{null, truth, whole, part, text, list, members}
use Rattle.lg_routes.specs.Calls.{kind_of, kind_found, recomputes_in, body_kind_of}
use Rattle.lg_routes.specs.declared.body.BodyKind.{BodyKind}
use Rattle.lg_routes.specs.declared.body.BodyKind.TheVariants.{Ignored, Json, Lines}
use Rattle.lg_routes.specs.Table.{found_in}
use Rattle.lg_types.specs.declared.calls.Call.{Call}
use Rattle.lg_readings.specs.Requests.{Body, ValueBody, IsRequest}
use Rattle.lg_readings.specs.Routes as views
use Rattle.lg_readings.specs.Routes.{Route, ImportLogs, Segment, route, post, word, below_ledger, body_kind, routes, routes_at, has_path, has_method, fits_path}
use Rattle.lg_readings.specs.Script as script
use Rattle.lg_readings.specs.Script.{takes_lines, is_import_route, is_import}
use Rattle.lg_readings.specs.Targets.{path_segments, query_of}
use Rattle.lg_batch.specs.Imports.{IsBodyOf, IsCallOf, as_unbuilt}

-- ---- requests whose bodies hold lines

abbrev has_lines : BodyKind → Bool
has_lines Ignored = false
has_lines Json = false
has_lines (Lines recompute) = true

-- ---- where a route takes lines, it is that of imports

abbrev import_path : List Segment
import_path = below_ledger (word (codes "logs") ∷ word (codes "import") ∷ [])

abbrev import_route : Route
import_route = route post import_path ImportLogs

-- the route of imports is the one that takes lines
abbrev Imports : List Route → Type 0
Imports [] = Unit {0}
Imports (r ∷ rs) = (takes_lines (body_kind r.row) ≡ true → r ≡ import_route) × Imports rs

other : {r : Route} → false ≡ true → r ≡ import_route
other e = absurd (false≢true e)

imports : Imports routes
imports = (other, (other, (other, (other, (other, (other, (other, (other, (other, (other, (other, (other, (other, (other, (other, (other, (λ e. refl, (other, (other, (other, tt))))))))))))))))))))

either : (a b : Bool) → (a || b) ≡ true → (a ≡ true) ⊎ (b ≡ true)
either true b e = inl refl
either false b e = inr e

and_left : (a b : Bool) → (a && b) ≡ true → a ≡ true
and_left true b e = refl
and_left false b e = absurd (false≢true e)

and_right : (a b : Bool) → (a && b) ≡ true → b ≡ true
and_right true b e = e
and_right false b e = absurd (false≢true e)

module _ (segments : List (List ℕ)) (method : List ℕ) where
  abbrev IsThere : Type 0
  IsThere = (has_path segments import_route ≡ true) × (has_method method import_route ≡ true)

  there : (r : Route) → (takes_lines (body_kind r.row) ≡ true → r ≡ import_route) → has_path segments r ≡ true → is_import_route method r ≡ true → IsThere
  there r is path import =
      let same = is (and_right (has_method method r) (takes_lines (body_kind r.row)) import) in
      (subst (λ (x : Route). has_path segments x ≡ true) same path, subst (λ (x : Route). has_method method x ≡ true) same (and_left (has_method method r) (takes_lines (body_kind r.row)) import))

  among_first : (r : Route) (rs : List Route) (b : Bool) → has_path segments r ≡ b → (takes_lines (body_kind r.row) ≡ true → r ≡ import_route)
      → (list_any (is_import_route method) (filter (has_path segments) rs) ≡ true → IsThere) → list_any (is_import_route method) (cond b (r ∷ filter (has_path segments) rs) (filter (has_path segments) rs)) ≡ true → IsThere
  among_first r rs true path is more e = elim (either (is_import_route method r) (list_any (is_import_route method) (filter (has_path segments) rs)) e) [
    | inl here ↦ there r is path here
    | inr later ↦ more later
  ]
  among_first r rs false path is more e = more e

  among : (rs : List Route) → Imports rs → list_any (is_import_route method) (filter (has_path segments) rs) ≡ true → IsThere
  among [] is e = absurd (false≢true e)
  among (r ∷ rs) is e = among_first r rs (has_path segments r) refl is.0 (among rs is.1) e

-- a path and a method of imports are those of a route whose body holds lines
lines_at : (recompute : Bool) (segments : List (List ℕ)) (method : List ℕ) → fits_path import_path segments ≡ true → bytes_eq post method ≡ true → has_lines (kind_found recompute (found_in (routes_at (Some segments)) method)) ≡ true
lines_at recompute [] method path m = absurd (false≢true path)
lines_at recompute (a ∷ []) method path m = absurd (false≢true (and_right (bytes_eq a (codes "v2")) false path))
lines_at recompute (a ∷ (b ∷ [])) method path m = absurd (false≢true (and_right (bytes_eq a (codes "v2")) false path))
lines_at recompute (a ∷ (b ∷ (c ∷ []))) method path m = absurd (false≢true (and_right (bytes_eq c (codes "logs")) false (and_right (bytes_eq a (codes "v2")) _ path)))
lines_at recompute (a ∷ (b ∷ (c ∷ (d ∷ [])))) method path m =
    let rest : (bytes_eq c (codes "logs") && (bytes_eq d (codes "import") && true)) ≡ true = and_right (bytes_eq a (codes "v2")) _ path in
    let last : (bytes_eq d (codes "import") && true) ≡ true = and_right (bytes_eq c (codes "logs")) _ rest in
    let first_is : a ≡ codes "v2" = (bytes_eq-Decides a (codes "v2")).0 (and_left (bytes_eq a (codes "v2")) _ path) in
    let third_is : c ≡ codes "logs" = (bytes_eq-Decides c (codes "logs")).0 (and_left (bytes_eq c (codes "logs")) _ rest) in
    let fourth_is : d ≡ codes "import" = (bytes_eq-Decides d (codes "import")).0 (and_left (bytes_eq d (codes "import")) true last) in
    let method_is : post ≡ method = (bytes_eq-Decides post method).0 m in
    subst (λ (x : List ℕ). has_lines (kind_found recompute (found_in (routes_at (Some (x ∷ (b ∷ (c ∷ (d ∷ [])))))) method)) ≡ true) (sym first_is)
    (subst (λ (x : List ℕ). has_lines (kind_found recompute (found_in (routes_at (Some (codes "v2" ∷ (b ∷ (x ∷ (d ∷ [])))))) method)) ≡ true) (sym third_is)
    (subst (λ (x : List ℕ). has_lines (kind_found recompute (found_in (routes_at (Some (codes "v2" ∷ (b ∷ (codes "logs" ∷ (x ∷ [])))))) method)) ≡ true) (sym fourth_is)
    (subst (λ (x : List ℕ). has_lines (kind_found recompute (found_in (routes_at (Some (codes "v2" ∷ (b ∷ (codes "logs" ∷ (codes "import" ∷ [])))))) x)) ≡ true) method_is refl)))
lines_at recompute (a ∷ (b ∷ (c ∷ (d ∷ (e ∷ more))))) method path m =
    absurd (false≢true (and_right (bytes_eq d (codes "import")) false (and_right (bytes_eq c (codes "logs")) _ (and_right (bytes_eq a (codes "v2")) _ path))))

lines_by : (recompute : Bool) (segments : Option (List (List ℕ))) (method : List ℕ) → list_any (is_import_route method) (routes_at segments) ≡ true → has_lines (kind_found recompute (found_in (routes_at segments) method)) ≡ true
lines_by recompute None method e = absurd (false≢true e)
lines_by recompute (Some segments) method e = let is = among segments method routes imports e in lines_at recompute segments method is.0 is.1

-- ---- and a route whose body holds lines takes lines

or_left : (a b : Bool) → a ≡ true → (a || b) ≡ true
or_left true b e = refl
or_left false b e = absurd (false≢true e)

or_right : (a b : Bool) → b ≡ true → (a || b) ≡ true
or_right true b e = refl
or_right false b e = e

takes : (recompute : Bool) (kind : views.BodyKind) → has_lines (kind_of recompute kind) ≡ true → takes_lines kind ≡ true
takes recompute views.Ignored e = absurd (false≢true e)
takes recompute views.JsonValue e = absurd (false≢true e)
takes recompute views.ImportLines e = refl

module _ (recompute : Bool) (method : List ℕ) where
  taken_first : (r : Route) (rs : List Route) (b : Bool) → has_method method r ≡ b → (has_lines (kind_found recompute (Some (find (has_method method) rs))) ≡ true → list_any (is_import_route method) rs ≡ true)
      → has_lines (kind_found recompute (Some (cond b (Some r) (find (has_method method) rs)))) ≡ true → list_any (is_import_route method) (r ∷ rs) ≡ true
  taken_first r rs true here more e =
      or_left (is_import_route method r) (list_any (is_import_route method) rs) (subst (λ (b : Bool). (b && takes_lines (body_kind r.row)) ≡ true) (sym here) (takes recompute (body_kind r.row) e))
  taken_first r rs false here more e = or_right (is_import_route method r) (list_any (is_import_route method) rs) (more e)

  taken_among : (rs : List Route) → has_lines (kind_found recompute (Some (find (has_method method) rs))) ≡ true → list_any (is_import_route method) rs ≡ true
  taken_among [] e = absurd (false≢true e)
  taken_among (r ∷ rs) e = taken_first r rs (has_method method r) refl (taken_among rs) e

  taken : (rs : List Route) → has_lines (kind_found recompute (found_in rs method)) ≡ true → list_any (is_import_route method) rs ≡ true
  taken [] e = absurd (false≢true e)
  taken (r ∷ rs) e = taken_among (r ∷ rs) e

module _ (method target : List ℕ) where
  kind_is : (b lines : Bool) → is_import method target ≡ b → has_lines (body_kind_of method target) ≡ lines → lines ≡ b
  kind_is true lines import is = sym is ∙ lines_by (recomputes_in (query_of target)) (path_segments target) method import
  kind_is false true import is = sym (taken (recomputes_in (query_of target)) method (routes_at (path_segments target)) is) ∙ import
  kind_is false false import is = refl

  -- a request of a kind of body that holds lines, or doesn't
  pub import_by : (kind : BodyKind) → kind ≡ body_kind_of method target → has_lines kind ≡ is_import method target
  import_by kind is = ap has_lines is ∙ kind_is (is_import method target) (has_lines (body_kind_of method target)) refl refl

-- ---- what the model reads

module _ (method target : List ℕ) where
  body_of : (b : Bool) → is_import method target ≡ b → (value : Option Tree) (body : Body) → script.IsBodyOf method target value body → IsBodyOf method target value body
  body_of b e None body is = is
  body_of true e (Some null) body is = rw e is
  body_of true e (Some (truth b)) body is = rw e is
  body_of true e (Some (whole n)) body is = rw e is
  body_of true e (Some part) body is = rw e is
  body_of true e (Some (text t)) body is = rw e (let lines : script.IsLines target t body = subst (λ (b : Bool). MatchBool b (script.IsLines target t body) (body ≡ ValueBody (text t))) e is in (lines.0, lines.2))
  body_of true e (Some (list ts)) body is = rw e is
  body_of true e (Some (members ms)) body is = rw e is
  body_of false e (Some null) body is = rw e is
  body_of false e (Some (truth b)) body is = rw e is
  body_of false e (Some (whole n)) body is = rw e is
  body_of false e (Some part) body is = rw e is
  body_of false e (Some (text t)) body is = rw e (subst (λ (b : Bool). MatchBool b (script.IsLines target t body) (body ≡ ValueBody (text t))) e is)
  body_of false e (Some (list ts)) body is = rw e is
  body_of false e (Some (members ms)) body is = rw e is

  -- the model's call of a request, with imports refused as not built, is a call of the line
  pub call_of_model : (key : Option (List ℕ)) (value : Option Tree) (body : Body) (c : Call) → script.IsBodyOf method target value body → IsRequest method target key body c → IsCallOf method target key value (as_unbuilt c)
  call_of_model key value body c is request = (body, c, body_of (is_import method target) refl value body is, request, refl)
