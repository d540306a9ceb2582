-- What the body of a write asks for.
use Rattle.std.specs.Prelude.{ℕ, Bool}
use Rattle.lg_json.specs.Tree.{Tree}
use Rattle.lg_types.specs.declared.calls.Write.{Write}
use Rattle.lg_types.specs.declared.calls.Write.TheVariants.{Revert, SetMeta}
use Rattle.lg_types.specs.declared.records.Target.{Target}
use Rattle.lg_readings.specs.Answers.{Answer, known, gives, ◌>>=◌}
use Rattle.lg_readings.specs.Bodies.{Creation, texts_of, revert_of}
use Rattle.lg_readings.specs.Paths.{top}
use Rattle.lg_readings.specs.Values.{present}
use Rattle.lg_codec.specs.declared.kind.WriteKind.{WriteKind}
use Rattle.lg_codec.specs.declared.kind.WriteKind.TheVariants as kinds

abbrev pub RevertWith : ℕ → Bool → Bool → Tree → Answer Write → Type 0
RevertWith id force at_effective_date body = known (revert_of (present body)) >>= (λ _. gives (Revert id force at_effective_date))

abbrev pub MetadataFor : Target → Tree → Answer Write → Type 0
MetadataFor target body = known (texts_of top (present body)) >>= (λ metadata. gives (SetMeta target metadata))

abbrev pub WriteOf : WriteKind → Tree → Answer Write → Type 0
WriteOf kinds.Create body = Creation top (present body)
WriteOf (kinds.Revert id force at_effective_date) body = RevertWith id force at_effective_date body
WriteOf (kinds.SetMeta target) body = MetadataFor target body
