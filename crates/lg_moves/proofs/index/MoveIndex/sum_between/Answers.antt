use Rattle.lg_types.specs.Tally.{date_of, is_to, is_between}
use Rattle.lg_moves.specs.Index.{is_before}
use Rattle.lg_moves.proofs.BetweenLemmas.{no_passing, lies_within, between_sums}
use Rattle.lg_moves.proofs.index.MoveIndex.sum_between.Goals as goal

pub returns-then-is_crossed-clause-value : goal.returns-then-is_crossed-clause-value
returns-then-is_crossed-clause-value g c =
    no_passing (is_between c.args.from c.args.to c.args.by_insertion) c.args.self.now.items c.zero.result (λ m. c.is_crossed.ensures.crossed c.if-is_crossed.true (date_of c.args.by_insertion m)) c.zero.ensures

pub minus-requires-clause-input : goal.minus-requires-clause-input
minus-requires-clause-input g c =
    (lies_within (λ m. is_before c.args.from (date_of c.args.by_insertion m)) (λ m. is_to c.args.to (date_of c.args.by_insertion m)) c.args.self.now.items c.sum_before-lower.result c.sum_to-upper.result
    (λ m. c.is_crossed.ensures.apart c.if-is_crossed.false (date_of c.args.by_insertion m)) c.sum_before-lower.ensures.value c.sum_to-upper.ensures.value).input

pub minus-requires-clause-output : goal.minus-requires-clause-output
minus-requires-clause-output g c =
    (lies_within (λ m. is_before c.args.from (date_of c.args.by_insertion m)) (λ m. is_to c.args.to (date_of c.args.by_insertion m)) c.args.self.now.items c.sum_before-lower.result c.sum_to-upper.result
    (λ m. c.is_crossed.ensures.apart c.if-is_crossed.false (date_of c.args.by_insertion m)) c.sum_before-lower.ensures.value c.sum_to-upper.ensures.value).output

pub minus-requires-clause-count : goal.minus-requires-clause-count
minus-requires-clause-count g c =
    (lies_within (λ m. is_before c.args.from (date_of c.args.by_insertion m)) (λ m. is_to c.args.to (date_of c.args.by_insertion m)) c.args.self.now.items c.sum_before-lower.result c.sum_to-upper.result
    (λ m. c.is_crossed.ensures.apart c.if-is_crossed.false (date_of c.args.by_insertion m)) c.sum_before-lower.ensures.value c.sum_to-upper.ensures.value).count

pub returns-clause-value : goal.returns-clause-value
returns-clause-value g c =
    between_sums c.args.from c.args.to c.args.by_insertion c.args.self.now.items c.sum_before-lower.result c.sum_to-upper.result c.minus.result
    (c.is_crossed.ensures.apart c.if-is_crossed.false) c.sum_before-lower.ensures.value c.sum_to-upper.ensures.value c.minus.ensures
