use Rattle.std.proofs.Common.{◌≡◌, ◌<◌, length, take, drop, arith, ap, sym, ◌∙◌, get_or, List}
use Rattle.std.proofs.lemmas.List.{length-take, length-drop}
use Rattle.std.proofs.lemmas.List.Sums.{sum_by-take-drop}
use Rattle.lg_types.specs.declared.moves.Move.{Move}
use Rattle.lg_moves.specs.Bounds.{key_of}
use Rattle.lg_moves.specs.Ranks.{IsUpToMove, IsRising}
use Rattle.lg_moves.proofs.SumLemmas.{bounded_below}
use Rattle.lg_moves.proofs.RankLemmas.{rising_right, rising_take, each_first, each_until_first, inserts_lower, inserts_upper, length_inserts, up_from_before, up_from_not_before}
use Rattle.lg_moves.proofs.block.halve_and_insert.Goals as goal

pub insert-requires-clause-bounded : goal.insert-requires-clause-bounded
insert-requires-clause-bounded g c =
    rw c.halve.ensures.low (bounded_below c.requires.bounded (λ part. omega (arith, sum_by-take-drop part c.args.block.now.items 16)))

pub insert-requires-else-is_before-clause-bounded : goal.insert-requires-else-is_before-clause-bounded
insert-requires-else-is_before-clause-bounded g c =
    rw c.halve.ensures.high (bounded_below c.requires.bounded (λ part. omega (arith, sum_by-take-drop part c.args.block.now.items 16)))

pub returns-then-is_before-clause-inserted : goal.returns-then-is_before-clause-inserted
returns-then-is_before-clause-inserted g c =
    let s = rising_take c.args.block.now.items 16 c.requires.rising in
    let n : length (drop 16 c.args.block.now.items) ≡ 16 = omega (arith, length-drop 16 c.args.block.now.items, c.requires.full) in
    let r : IsRising c.halve.new.fresh.items = rw c.halve.ensures.high (rising_right (take 16 c.args.block.now.items) (drop 16 c.args.block.now.items) s) in
    let some : 0 < length c.halve.new.fresh.items = rw (c.halve.ensures.high, n) (omega arith) in
    let up : (d : Move) → IsUpToMove c.args.item.now (get_or c.halve.new.fresh.items 0 d) = λ d. up_from_before c.args.item.now (get_or c.halve.new.fresh.items 0 d) (rw (c.of.ensures, c.first.ensures d some) at (sym c.is_before.ensures ∙ c.if-is_before.true)) in
    inserts_lower c.args.item.now c.args.block.now.items c.halve.new.self.items c.insert.new.self.items c.halve.new.fresh.items 16 c.halve.ensures.low c.halve.ensures.high c.insert.ensures.inserted
    (each_first c.args.item.now c.halve.new.fresh.items r some up)

pub returns-then-is_before-clause-lower : goal.returns-then-is_before-clause-lower
returns-then-is_before-clause-lower g c =
    let n : length c.halve.new.self.items ≡ 16 = ap length c.halve.ensures.low ∙ omega (arith, length-take 16 c.args.block.now.items, c.requires.full) in
    omega (arith, n, length_inserts c.args.item.now c.halve.new.self.items c.insert.new.self.items c.insert.ensures.inserted)

pub returns-then-is_before-clause-lower_room : goal.returns-then-is_before-clause-lower_room
returns-then-is_before-clause-lower_room g c =
    let n : length c.halve.new.self.items ≡ 16 = ap length c.halve.ensures.low ∙ omega (arith, length-take 16 c.args.block.now.items, c.requires.full) in
    omega (arith, n, length_inserts c.args.item.now c.halve.new.self.items c.insert.new.self.items c.insert.ensures.inserted)

pub returns-else-is_before-clause-inserted : goal.returns-else-is_before-clause-inserted
returns-else-is_before-clause-inserted g c =
    let s = rising_take c.args.block.now.items 16 c.requires.rising in
    let n : length (drop 16 c.args.block.now.items) ≡ 16 = omega (arith, length-drop 16 c.args.block.now.items, c.requires.full) in
    let some : 0 < length (drop 16 c.args.block.now.items) = omega arith in
    let some_fresh : 0 < length c.halve.new.fresh.items = rw c.halve.ensures.high some in
    let first : (d : Move) → c.first.result ≡ key_of (get_or (drop 16 c.args.block.now.items) 0 d) = λ d. c.first.ensures d some_fresh ∙ ap (λ (z : List Move). key_of (get_or z 0 d)) c.halve.ensures.high in
    let up : (d : Move) → IsUpToMove (get_or (drop 16 c.args.block.now.items) 0 d) c.args.item.now =
    λ d. up_from_not_before c.args.item.now (get_or (drop 16 c.args.block.now.items) 0 d) (rw (c.of.ensures, first d) at (sym c.is_before.ensures ∙ c.if-is_before.false)) in
    inserts_upper c.args.item.now c.args.block.now.items c.halve.new.self.items c.halve.new.fresh.items c.insert-else-is_before.new.self.items 16 c.halve.ensures.low c.halve.ensures.high c.insert-else-is_before.ensures.inserted
    (rw c.halve.ensures.low (each_until_first c.args.item.now (take 16 c.args.block.now.items) (drop 16 c.args.block.now.items) s some up))

pub returns-else-is_before-clause-upper_room : goal.returns-else-is_before-clause-upper_room
returns-else-is_before-clause-upper_room g c =
    let n : length c.halve.new.fresh.items ≡ 16 = ap length c.halve.ensures.high ∙ omega (arith, length-drop 16 c.args.block.now.items, c.requires.full) in
    omega (arith, n, length_inserts c.args.item.now c.halve.new.fresh.items c.insert-else-is_before.new.self.items c.insert-else-is_before.ensures.inserted)
