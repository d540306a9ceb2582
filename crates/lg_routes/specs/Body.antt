-- The body that comes with a request, and what is read of it.
use Rattle.std.specs.Prelude.{Result, Ok, Err}
use Rattle.lg_json.specs.Tree.{Tree, tree}
use Rattle.lg_json.specs.declared.json.Json.{Json}
use Rattle.lg_json.specs.declared.json.JsonFault.{JsonFault}
use Rattle.lg_json.specs.declared.json.JsonFault.TheVariants as faults
use Rattle.lg_types.specs.declared.refusals.FaultKind.TheVariants as kinds
use Rattle.lg_types.specs.declared.refusals.Refusal.TheVariants.{OutOfMemory}
use Rattle.lg_readings.specs.Answers.{Answer}
use Rattle.lg_readings.specs.Requests.{Body, NoBody, ValueBody, FaultyBody, UnreadBody, LinesBody}
use Rattle.lg_codec.specs.declared.stop.CodecStop.{CodecStop}
use Rattle.lg_codec.specs.declared.stop.CodecStop.TheVariants.{Refused, NoMemory}
use Rattle.lg_routes.specs.declared.body.RequestBody.{RequestBody}
use Rattle.lg_routes.specs.declared.body.RequestBody.TheVariants as bodies

abbrev pub faulty_body : JsonFault → Body
faulty_body (faults.Syntax place) = FaultyBody kinds.Syntax place
faulty_body (faults.NotWhole place) = FaultyBody kinds.NotWhole place
faulty_body (faults.TooWide place) = FaultyBody kinds.TooWide place
faulty_body (faults.TooDeep place) = FaultyBody kinds.TooDeep place
faulty_body (faults.Repeated place) = FaultyBody kinds.Repeated place
faulty_body faults.NoMemory = UnreadBody

abbrev pub body_seen : RequestBody → Body
body_seen bodies.None = NoBody
body_seen (bodies.Value value) = ValueBody (tree value)
body_seen (bodies.Faulty fault) = faulty_body fault
body_seen (bodies.Lines batch) = LinesBody batch

-- `AnswersBy` and `Reads` of a JSON value
abbrev pub AnswersTree : (Answer Tree → Type 0) → Result Json CodecStop → Type 0
AnswersTree reading (Ok value) = reading (Ok (tree value))
AnswersTree reading (Err (Refused refusal)) = reading (Err refusal)
AnswersTree reading (Err NoMemory) = Unit {0}

pub record ReadsTree (reading : Answer Tree → Type 0) (result : Result Json CodecStop) : Type 0 where
  pub answers : AnswersTree reading result
