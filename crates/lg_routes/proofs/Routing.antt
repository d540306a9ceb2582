-- The request of a route that was found, and of none.
use Rattle.std.proofs.Common.{◌≡◌, ℕ, List, [], ◌∷◌, map, Option, Some, None, refl, sym, ap, subst, ◌∙◌}
use Rattle.std.specs.Prelude.{Result, Ok, Err, IfOk}
use Rattle.std.specs.List.{find, slice_split}
use Rattle.std.specs.declared.alloc.AllocError.{AllocError}
use Rattle.form_urlencoded.specs.Form.{raw_pairs}
use Rattle.lg_types.specs.declared.calls.Call.{Call}
use Rattle.lg_types.specs.declared.refusals.Refusal.TheVariants.{NoRoute, Method, OutOfMemory}
use Rattle.lg_readings.specs.Answers.{Answer}
use Rattle.lg_readings.specs.Requests.{Body, Asks, AsksOn, AsksAmong, RequestAnswer}
use Rattle.lg_readings.specs.Routes as views
use Rattle.lg_readings.specs.Targets.{Parameter, path_segments, segments_behind, parameters, path_of, query_of, parameter_of, is_slash}
use Rattle.lg_codec.specs.Results.{Reads}
use Rattle.lg_codec.specs.declared.stop.CodecStop.{CodecStop}
use Rattle.lg_codec.specs.declared.stop.CodecStop.TheVariants.{Refused, NoMemory}
use Rattle.lg_routes.specs.Table.{found_in, names_of, HasNamesOf}
use Rattle.lg_routes.specs.Calls.{AsksAt, IsCallOf, IsCallOfAnswer, kind_found, recomputes_in, body_kind_of}
use Rattle.lg_routes.specs.declared.body.BodyKind.{BodyKind}

module _ (method : List ℕ) (segments : List (List ℕ)) (ps : List Parameter) (key : Option (List ℕ)) (body : Body) where
  pub asks_found : (rs : List views.Route) (route : views.Route) {r : Result Call CodecStop} → Some (Some route) ≡ found_in rs method → HasNamesOf route segments
      → Reads (Asks route.row (names_of route.row segments) ps key body) r → Reads (AsksAmong rs method segments ps key body) r
  asks_found [] route e names p = absurd (let none : ◌≡◌ {A = Option (Option views.Route)} (Some (Some route)) None = e in cc)
  asks_found (x ∷ xs) route {r = r} e names p =
      let is : Some route ≡ find (views.has_method method) (x ∷ xs) = cc in
      subst (λ (found : Option views.Route). Reads (AsksOn segments ps key body found) r) is
      (subst (λ (ns : List (List ℕ)). Reads (Asks route.row ns ps key body) r) (sym names.names) p)

  pub asks_no_method : (rs : List views.Route) → Some None ≡ found_in rs method → Reads (AsksAmong rs method segments ps key body) (Err (Refused Method))
  asks_no_method [] e = absurd (let none : ◌≡◌ {A = Option (Option views.Route)} (Some None) None = e in cc)
  asks_no_method (x ∷ xs) e =
      let is : None ≡ find (views.has_method method) (x ∷ xs) = cc in
      subst (λ (found : Option views.Route). Reads (AsksOn segments ps key body found) (Err (Refused Method))) is (record { answers = refl })

  pub asks_no_path : (rs : List views.Route) → None ≡ found_in rs method → Reads (AsksAmong rs method segments ps key body) (Err (Refused NoRoute))
  asks_no_path [] e = record { answers = refl }
  asks_no_path (x ∷ xs) e = absurd (let some : ◌≡◌ {A = Option (Option views.Route)} None (Some (find (views.has_method method) (x ∷ xs))) = e in cc)

module _ (method target : List ℕ) (key : Option (List ℕ)) (body : Body) where
  pub request_of : (segments : Option (List (List ℕ))) (path query : List ℕ) {r : Result Call CodecStop} → segments ≡ segments_behind (slice_split is_slash path) → path ≡ path_of target → query ≡ query_of target
      → Reads (AsksAt segments method (map parameter_of (raw_pairs query)) key body) r → Reads (RequestAnswer method target key body) r
  request_of segments path query {r = r} e at_path at_query p =
      let found : segments ≡ path_segments target = e ∙ ap (λ (bs : List ℕ). segments_behind (slice_split is_slash bs)) at_path in
      subst (λ (o : Option (List (List ℕ))). Reads (AsksAt o method (parameters target) key body) r) found
      (subst (λ (q : List ℕ). Reads (AsksAt segments method (map parameter_of (raw_pairs q)) key body) r) at_query p)

  pub call_is : (answer : Result Call CodecStop) (result : Result Call AllocError) → Reads (RequestAnswer method target key body) answer
      → IfOk result (IsCallOfAnswer answer) → IfOk result (IsCallOf method target key body)
  call_is answer (Err fault) p h = tt
  call_is (Ok call) (Ok c) p h = record { request = (Ok call, p.answers, h); remembered = λ (e : ◌≡◌ {A = Answer Call} (Ok call) (Err OutOfMemory)). cc }
  call_is (Err (Refused refusal)) (Ok c) p h =
      record { request = (Err refusal, p.answers, h.call); remembered = λ (e : ◌≡◌ {A = Answer Call} (Err refusal) (Err OutOfMemory)). h.remembered cc }
  call_is (Err NoMemory) (Ok c) p h = absurd h

module _ (method target : List ℕ) where
  pub kind_is : (segments : Option (List (List ℕ))) (path query : List ℕ) (r : Result BodyKind AllocError) → segments ≡ segments_behind (slice_split is_slash path) → path ≡ path_of target → query ≡ query_of target
      → IfOk r (λ kind. kind ≡ kind_found (recomputes_in query) (found_in (views.routes_at segments) method)) → IfOk r (λ kind. kind ≡ body_kind_of method target)
  kind_is segments path query r e at_path at_query p =
      let found : segments ≡ path_segments target = e ∙ ap (λ (bs : List ℕ). segments_behind (slice_split is_slash bs)) at_path in
      subst (λ (o : Option (List (List ℕ))). IfOk r (λ kind. kind ≡ kind_found (recomputes_in (query_of target)) (found_in (views.routes_at o) method))) found
      (subst (λ (q : List ℕ). IfOk r (λ kind. kind ≡ kind_found (recomputes_in q) (found_in (views.routes_at segments) method))) at_query p)
