use Rattle.std.proofs.Common.{◌++◌, ◌∙◌, arith}
use Rattle.std.proofs.lemmas.Result.{IfOk-weaker}
use Rattle.lg_types.specs.Log.{log}
use Rattle.lg_decide.proofs.LogCounts.{transactions_within}
use Rattle.lg_listed.proofs.TotalLemmas.{parts_lent}
use Rattle.lg_listed.proofs.new_entries.decide.Goals as goal

pub find_used-used-requires : goal.find_used-used-requires
find_used-used-requires g c = parts_lent (g.S.Shards.lent c.args.lent.now) c.args.book.now.events c.requires.ground.parts

pub look_up-looked-requires : goal.look_up-looked-requires
look_up-looked-requires g c = record {
  there = c.requires.ground.there;
  room = (let count = c.requires.count.count in let room = c.requires.count.room in omega (arith, count, room));
}

pub try_postings-requires : goal.try_postings-requires
try_postings-requires g c = record {
  lent = parts_lent (g.S.Shards.lent c.args.lent.now) c.args.book.now.events c.requires.ground.parts;
  within = c.requires.ground.within;
}

pub decide_write-requires : goal.decide_write-requires
decide_write-requires g c =
    let few = transactions_within (log c.args.book.now.events c.args.ledger.now ++ c.args.earlier.now) in
    let count = c.requires.count.count in
    let room = c.requires.count.room in
    let looked = c.look_up-looked.ensures.count in
    omega (arith, few, count, room, looked)

pub returns : goal.returns
returns g c =
    let h = log c.args.book.now.events c.args.ledger.now ++ c.args.earlier.now in
    IfOk-weaker c.decide_write.result _ _
    (λ d is.
    is h (record {
      count = c.look_up-looked.ensures.count;
      known = c.look_up-looked.ensures.known;
      reverted = c.look_up-looked.ensures.reverted;
      referred = c.look_up-looked.ensures.used ∙ c.find_used-used.ensures c.args.book.now.events c.requires.ground.parts;
      refused = c.in_ok-trial.ensures c.args.book.now.events c.requires.ground.parts;
    }))
    c.decide_write.ensures
