use Rattle.std.proofs.Common.{◌≡◌, ◌≤◌, ℕ, length, ap, sym, subst, ◌∙◌}
use Rattle.lg_types.specs.declared.records.EntryBody.TheVariants.{Reverted}
use Rattle.lg_book.specs.Index.{CanAddTo, with_first_applied}
use Rattle.lg_book.proofs.Lists.{length-changed}
use Rattle.lg_book.proofs.records.add_to_records.Goals as goal

pub mark_reverted-requires : goal.mark_reverted-requires
mark_reverted-requires c =
    let may : CanAddTo c.args.records.now.items c.args.date (Reverted c.in-Reverted.reverted c.in-Reverted.transaction) = subst (CanAddTo c.args.records.now.items c.args.date) c.in-Reverted.is c.requires in
    let same : length c.apply_change-in-Reverted.new.records.items ≡ length c.args.records.now.items = ap length c.apply_change-in-Reverted.ensures ∙ length-changed (with_first_applied _) _ c.args.records.now.items in
    (may.1.0, subst (λ (n : ℕ). c.in-Reverted.reverted ≤ n) (sym same) may.1.1)
