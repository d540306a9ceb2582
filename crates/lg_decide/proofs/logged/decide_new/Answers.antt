use Rattle.std.proofs.Common.{ap, sym, refl, ◌∙◌, arith}
use Rattle.std.proofs.lemmas.Result.{IfOk-weaker}
use Rattle.lg_types.specs.Log.{log}
use Rattle.lg_weigh.specs.declared.weighed.Weighed.{Weighed}
use Rattle.lg_decide.proofs.GroundLemmas.{body-shown}
use Rattle.lg_decide.proofs.LogCounts.{log_below, transactions_within}
use Rattle.lg_decide.proofs.PlanLemmas.{looked-shows, granted-decision, denied-decision}
use Rattle.lg_decide.proofs.logged.decide_new.Goals as goal

pub decide_write-requires : goal.decide_write-requires
decide_write-requires g c =
    let few = transactions_within (log c.args.book.now.events c.args.ledger.now) in
    let below = log_below c.args.book.now.events c.args.ledger.now c.requires.there in
    let room = c.requires.ground.room in
    let count = c.look_up-looked.ensures.count in
    omega (arith, few, below, room, count)

pub append-requires : goal.append-requires
append-requires g c =
    let events = c.args.book.now.events in
    let log_of = log events c.args.ledger.now in
    let shows = looked-shows log_of c.args.key.now c.args.write.now c.look_up-looked.result c.args.weighed c.requires.weighed c.look_up-looked.ensures.count c.look_up-looked.ensures.known c.look_up-looked.ensures.reverted c.look_up-looked.ensures.used in
    let is = sym (c.in_ok-decided.ensures log_of shows) ∙ c.in-Granted.is in
    let below = log_below events c.args.ledger.now c.requires.there in
    let room = c.requires.ground.room in
    let count = c.requires.count in
    record {
      count = c.requires.count;
      room = omega (arith, below, room, count);
      shown = body-shown (g.S.Shards.lent c.args.lent.now) events c.args.ledger.now c.args.key.now c.args.write.now c.requires.ground c.args.date.now c.in-Granted.body is;
    }

pub returns-in-Denied : goal.returns-in-Denied
returns-in-Denied g c =
    let events = c.args.book.now.events in
    let log_of = log events c.args.ledger.now in
    let shows = looked-shows log_of c.args.key.now c.args.write.now c.look_up-looked.result c.args.weighed c.requires.weighed c.look_up-looked.ensures.count c.look_up-looked.ensures.known c.look_up-looked.ensures.reverted c.look_up-looked.ensures.used in
    let is = sym (c.in_ok-decided.ensures log_of shows) ∙ c.in-Denied.is in
    denied-decision events c.args.ledger.now c.args.date.now c.args.key.now c.args.write.now c.in-Denied.refusal is

pub returns-in-Granted : goal.returns-in-Granted
returns-in-Granted g c =
    let events = c.args.book.now.events in
    let log_of = log events c.args.ledger.now in
    let shows = looked-shows log_of c.args.key.now c.args.write.now c.look_up-looked.result c.args.weighed c.requires.weighed c.look_up-looked.ensures.count c.look_up-looked.ensures.known c.look_up-looked.ensures.reverted c.look_up-looked.ensures.used in
    let is = sym (c.in_ok-decided.ensures log_of shows) ∙ c.in-Granted.is in
    IfOk-weaker c.append.result _ _
    (λ d h.
    h c.args.write.now (ap (λ (w : Weighed). w.input_hash) c.requires.weighed)
    ∙ granted-decision events c.args.ledger.now c.args.date.now c.args.key.now c.args.write.now c.in-Granted.body _ is refl)
    c.append.ensures
