-- Running a made script: how many lines were accepted, and what it came to.
use Rattle.std.specs.Prelude.{◌≡◌, ℕ, List, length, codes}
use Rattle.lg_base.specs.Volumes.{IsWithinLimit}
use Rattle.lg_batch.specs.Runs.{AreAnswered}
use Rattle.lg_generator.specs.Summaries.{accepted, holding}
use Rattle.lg_generator.specs.declared.summary.Summary.{Summary}
use Rattle.lg_types.specs.Chain.{head}
use Rattle.lg_types.specs.declared.records.Entry.{Entry}
use Rattle.lg_types.specs.declared.records.Event.{Event}
use Rattle.lg_views.specs.declared.answers.Answer.{Answer}
use Rattle.lg_views.specs.declared.lines.ScriptLine.{ScriptLine}

-- the lines were answered, and so many answers are no refusals
abbrev pub Accepts : List Event → List ScriptLine → ℕ → Type 0
Accepts events lines count = (answers : List Answer) × AreAnswered events lines answers × (count ≡ accepted answers)

-- a summary of so many lines, of which so many were accepted
pub record IsSummaryOf (lines count : ℕ) (entries : List Entry) (s : Summary) : Type 0 where
  pub lines_are : s.lines ≡ lines
  pub accepted_are : s.accepted ≡ count
  pub entries_are : s.entries ≡ length entries
  pub fees_are : s.fees ≡ holding entries (codes "shop:fees")
  pub sales_are : s.sales ≡ holding entries (codes "shop:sales")
  pub world_is : s.world ≡ holding entries (codes "world")
  pub head_is : s.head ≡ head entries
  pub fees : IsWithinLimit s.fees
  pub sales : IsWithinLimit s.sales
  pub world : IsWithinLimit s.world
