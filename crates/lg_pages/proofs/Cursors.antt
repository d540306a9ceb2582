-- A query without a cursor.
use Rattle.std.proofs.Common.{◌≡◌, ℕ, List, Option, Some, None, subst}
use Rattle.std.specs.Prelude.{Result, codes}
use Rattle.lg_codec.specs.Results.{Reads}
use Rattle.lg_codec.specs.declared.stop.CodecStop.{CodecStop}
use Rattle.lg_types.specs.declared.filters.ListKind.{ListKind}
use Rattle.lg_types.specs.declared.queries.Query.{Query}
use Rattle.lg_readings.specs.Answers.{Answer}
use Rattle.lg_readings.specs.Requests.{TokenOr}
use Rattle.lg_readings.specs.Targets.{Parameter, first_value}
use Rattle.lg_readings.specs.TokenReadings.{TokenQuery}

pub without_cursor : (kind : ListKind) (ps : List Parameter) (first : Answer Query → Type 0) {r : Result Query CodecStop}
    → None ≡ first_value (codes "cursor") ps → Reads first r → Reads (TokenOr kind ps first) r
without_cursor kind ps first {r = r} is p = subst (λ (cursor : Option (List ℕ)). Reads (elim cursor [ None ↦ first | Some token ↦ TokenQuery kind token ]) r) is p
