use Rattle.std.proofs.Common.{List, ℕ, refl, length, ap, ◌∙◌}
use Rattle.std.specs.Prelude.{codes}
use Rattle.lg_generator.specs.Summaries.{holding}
use Rattle.lg_types.specs.Chain.{head}
use Rattle.lg_types.specs.Log.{log}
use Rattle.lg_generator.proofs.made_run.summary_of.Goals as goal

pub returns : goal.returns
returns c =
    let named = c.in_ok-ledger.ensures in
    record {
      lines_are = refl;
      accepted_are = refl;
      entries_are = c.entries_of.ensures ∙ ap (λ (n : List ℕ). length (log c.args.solo.now n)) named;
      fees_are = c.in_ok-fees.ensures.value ∙ ap (λ (n : List ℕ). holding (log c.args.solo.now n) (codes "shop:fees")) named;
      sales_are = c.in_ok-sales.ensures.value ∙ ap (λ (n : List ℕ). holding (log c.args.solo.now n) (codes "shop:sales")) named;
      world_is = c.in_ok-world.ensures.value ∙ ap (λ (n : List ℕ). holding (log c.args.solo.now n) (codes "world")) named;
      head_is = (rw (c.book.ensures) at c.head.ensures) ∙ ap (λ (n : List ℕ). head (log c.args.solo.now n)) named;
      fees = c.in_ok-fees.ensures.limit;
      sales = c.in_ok-sales.ensures.limit;
      world = c.in_ok-world.ensures.limit;
    }
