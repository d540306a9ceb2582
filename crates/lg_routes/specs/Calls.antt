-- The answer to a request, and what it looks at of its body.
use Rattle.std.specs.Prelude.{◌≡◌, ℕ, Bool, List, map, Option, Some, None, Result, Ok, Err, codes}
use Rattle.form_urlencoded.specs.Form.{raw_pairs}
use Rattle.lg_types.specs.declared.calls.Call.{Call}
use Rattle.lg_types.specs.declared.calls.Call.TheVariants.{Unreadable}
use Rattle.lg_types.specs.declared.refusals.Refusal.{Refusal}
use Rattle.lg_types.specs.declared.refusals.Refusal.TheVariants.{OutOfMemory}
use Rattle.lg_readings.specs.Answers.{Answer}
use Rattle.lg_readings.specs.Parameters.{is_recompute}
use Rattle.lg_readings.specs.Requests.{Body, IsRequest, AsksAmong, segments_or_none}
use Rattle.lg_readings.specs.Routes as views
use Rattle.lg_readings.specs.Targets.{Parameter, path_segments, query_of, parameter_of, first_value}
use Rattle.lg_codec.specs.declared.stop.CodecStop.{CodecStop}
use Rattle.lg_codec.specs.declared.stop.CodecStop.TheVariants.{Refused, NoMemory}
use Rattle.lg_routes.specs.Table.{found_in}
use Rattle.lg_routes.specs.declared.body.BodyKind.{BodyKind}
use Rattle.lg_routes.specs.declared.body.BodyKind.TheVariants.{Ignored, Json, Lines}

-- what a request at the segments of a path asks for; a path that has none has no route
abbrev pub AsksAt : Option (List (List ℕ)) → List ℕ → List Parameter → Option (List ℕ) → Body → Answer Call → Type 0
AsksAt segments method ps key body = AsksAmong (views.routes_at segments) method (segments_or_none segments) ps key body

-- the call of a request; the request's answer isn't that memory was wanting for its body
pub record IsCallOf (method target : List ℕ) (key : Option (List ℕ)) (body : Body) (c : Call) : Type 0 where
  pub request : IsRequest method target key body c
  pub remembered : ¬ (request.0 ≡ Err OutOfMemory)

-- the call of a refusal other than for want of memory
pub record IsCallOfRefusal (refusal : Refusal) (c : Call) : Type 0 where
  pub call : c ≡ Unreadable refusal
  pub remembered : ¬ (refusal ≡ OutOfMemory)

abbrev pub IsCallOfAnswer : Result Call CodecStop → Call → Type 0
IsCallOfAnswer (Ok call) c = c ≡ call
IsCallOfAnswer (Err (Refused refusal)) c = IsCallOfRefusal refusal c
IsCallOfAnswer (Err NoMemory) c = ⊥

-- ---- what a request looks at of its body

-- whether the query of an import asks for hashes to be computed anew
abbrev pub recomputes_in : List ℕ → Bool
recomputes_in query = is_recompute (first_value (codes "hashes") (map parameter_of (raw_pairs query)))

abbrev pub kind_of : Bool → views.BodyKind → BodyKind
kind_of recompute views.Ignored = Ignored
kind_of recompute views.JsonValue = Json
kind_of recompute views.ImportLines = Lines recompute

abbrev pub kind_found : Bool → Option (Option views.Route) → BodyKind
kind_found recompute None = Ignored
kind_found recompute (Some None) = Ignored
kind_found recompute (Some (Some route)) = kind_of recompute (views.body_kind route.row)

-- nothing where no route has the path and the method
abbrev pub body_kind_of : List ℕ → List ℕ → BodyKind
body_kind_of method target = kind_found (recomputes_in (query_of target)) (found_in (views.routes_at (path_segments target)) method)
