use Rattle.std.proofs.Common.{◌≡◌, [], ◌∷◌, ◌++◌, List, ap, subst}
use Rattle.std.proofs.lemmas.Result.{on_ok_weaker}
use Rattle.lg_types.specs.declared.records.Entry.{Entry}
use Rattle.lg_types.specs.Log.{log}
use Rattle.lg_views.specs.declared.replies.Reply.{Reply}
use Rattle.lg_book.specs.FirstVolumes.{entry_volumes}
use Rattle.lg_bulk.specs.Gathering.{MayAppend}
use Rattle.lg_bulk.proofs.ElementLemmas.{entry-gathered}
use Rattle.lg_bulk.proofs.elements.take_entry.Goals as goal

pub returns : goal.returns
returns g c =
    on_ok_weaker c.push-3.result
    (λ more events may.
    let h : List Entry = log events c.args.ledger.now ++ c.args.gathered.now.entries in
    let shown : c.in_ok-volumes.volumes ≡ entry_volumes (h ++ c.args.entry ∷ []) c.args.entry =
    subst (λ (es : List Entry). MayAppend (g.S.Shards.lent c.args.lent.now) events c.args.ledger.now es c.args.entry → c.in_ok-volumes.volumes ≡ entry_volumes ((log events c.args.ledger.now ++ es) ++ c.args.entry ∷ []) c.args.entry) c.as_slice.ensures (c.in_ok-volumes.ensures events) may in
    entry-gathered h c.args.element.now c.args.gathered.now c.args.entry c.in_ok-volumes.volumes c.in_ok-reply.reply.content c.good_item-good.result c.push.new.self c.push-2.new.self c.push-3.new.self
    shown (ap (λ (r : Reply). r.content) (c.in_ok-reply.ensures (h ++ c.args.entry ∷ []) shown)) c.good_item-good.ensures c.in_ok-push.ensures.ok c.in_ok-push-2.ensures.ok more)
    c.push-3.ensures.ok
