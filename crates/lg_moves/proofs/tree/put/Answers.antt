use Rattle.std.proofs.Common.{◌++◌, arith, length-append}
use Rattle.lg_moves.proofs.RankLemmas.{rising_left, rising_right, rising_inserts, length_inserts}
use Rattle.lg_moves.proofs.TreeLemmas.{puts_inserted, inserts_bounded, bounded_right}
use Rattle.lg_moves.proofs.tree.put.Goals as goal

pub insert-requires-clause-rising : goal.insert-requires-clause-rising
insert-requires-clause-rising g c = rising_left c.args.block.now.items c.args.right.now.items c.requires.rising

pub halve_and_insert-requires-clause-rising : goal.halve_and_insert-requires-clause-rising
halve_and_insert-requires-clause-rising g c = rising_left c.args.block.now.items c.args.right.now.items c.requires.rising

pub push_front-requires-clause-rising : goal.push_front-requires-clause-rising
push_front-requires-clause-rising g c =
    let w = puts_inserted c.args.item.now c.args.block.now.items c.halve_and_insert.new.block.items c.halve_and_insert.new.upper.items c.args.right.now.items c.halve_and_insert.ensures.inserted c.requires.after in
    rising_right c.halve_and_insert.new.block.items (c.halve_and_insert.new.upper.items ++ c.args.right.now.items) (rising_inserts c.args.item.now (c.args.block.now.items ++ c.args.right.now.items) _ w c.requires.rising)

pub push_front-requires-clause-bounded : goal.push_front-requires-clause-bounded
push_front-requires-clause-bounded g c =
    let w = puts_inserted c.args.item.now c.args.block.now.items c.halve_and_insert.new.block.items c.halve_and_insert.new.upper.items c.args.right.now.items c.halve_and_insert.ensures.inserted c.requires.after in
    bounded_right c.halve_and_insert.new.block.items (c.halve_and_insert.new.upper.items ++ c.args.right.now.items) (inserts_bounded c.args.item.now (c.args.block.now.items ++ c.args.right.now.items) _ w c.requires.bounded)

pub returns-else-len-lt-CAPACITY-clause-puts : goal.returns-else-len-lt-CAPACITY-clause-puts
returns-else-len-lt-CAPACITY-clause-puts g c =
    let n = length_inserts c.args.item.now c.args.block.now.items _ c.halve_and_insert.ensures.inserted in
    let l = length-append c.halve_and_insert.new.block.items c.halve_and_insert.new.upper.items in
    record {
      inserted = rw c.push_front.ensures.items (puts_inserted c.args.item.now c.args.block.now.items c.halve_and_insert.new.block.items c.halve_and_insert.new.upper.items c.args.right.now.items c.halve_and_insert.ensures.inserted c.requires.after);
      some = omega arith;
      room = c.halve_and_insert.ensures.lower_room;
      kept = omega arith;
      more = omega arith;
      one = omega arith;
      extra = omega arith;
      thick = c.push_front.ensures.thick;
      low = c.push_front.ensures.not_lower;
      high = c.push_front.ensures.at_most_one_higher;
    }
