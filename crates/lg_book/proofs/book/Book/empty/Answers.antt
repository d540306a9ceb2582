use Rattle.lg_book.proofs.BookSteps.{empty_book}
use Rattle.lg_book.proofs.book.Book.empty.Goals as goal

pub invariant_of-result : goal.invariant_of-result
invariant_of-result c = empty_book c.new.result.items c.new-2.result c.new.ensures.items c.new-2.ensures
