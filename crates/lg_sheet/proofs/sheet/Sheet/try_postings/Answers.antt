use Rattle.std.proofs.Common.{◌++◌}
use Rattle.lg_sheet.proofs.SheetLemmas.{have_both}
use Rattle.lg_sheet.proofs.sheet.Sheet.try_postings.Goals as goal

pub returns-in-Ok-clause-told : goal.returns-in-Ok-clause-told
returns-in-Ok-clause-told g c = λ ms accepted have has.
    let told = rw c.as_slice-in-Ok.ensures.value at c.book.ensures.told in
    let same = rw c.self.view_is at c.open_all.ensures.same in
    told (ms ++ accepted) (have_both (g.B.Balances.totals c.args.lent.now) c.args.self.now c.open_all.new.working c.args.postings.now ms accepted same have has)
