use Rattle.std.proofs.Common.{◌++◌}
use Rattle.std.proofs.lemmas.Result.{IfOk-weaker}
use Rattle.lg_types.specs.Log.{log}
use Rattle.lg_views.specs.Writes.{up_to}
use Rattle.lg_book.specs.Reading.{find_entry}
use Rattle.lg_bulk.proofs.GroundLemmas.{ready}
use Rattle.lg_bulk.proofs.KeptLemmas.{new-at, old-at, old-content, some-of, is-some}
use Rattle.lg_bulk.proofs.kept.kept_content.Goals as goal

pub gathered_content-requires : goal.gathered_content-requires
gathered_content-requires c =
    let events = c.args.book.now.events in
    let whole = ready c.requires.ground.0 events c.args.ledger.now c.requires.ground.1 in
    let own = some-of (find_entry (log events c.args.ledger.now ++ c.args.gathered.now.entries) c.args.entry) c.requires.found in
    let new = new-at events c.args.ledger.now whole c.args.gathered.now c.requires.gathered c.args.entry own.0 own.1 c.args.logged c.requires.logged c.if-logged-entry.true in
    record { entry = is-some _ own.0 new.0; volumes = is-some _ _ new.1 }

pub first_reply-requires : goal.first_reply-requires
first_reply-requires c =
    let events = c.args.book.now.events in
    let whole = ready c.requires.ground.0 events c.args.ledger.now c.requires.ground.1 in
    let own = some-of (find_entry (log events c.args.ledger.now ++ c.args.gathered.now.entries) c.args.entry) c.requires.found in
    let old = old-at events c.args.ledger.now whole c.args.gathered.now c.requires.gathered c.args.entry own.0 own.1 c.args.logged c.requires.logged c.if-logged-entry.false in
    is-some _ own.0 old.0

pub returns-then-logged-entry : goal.returns-then-logged-entry
returns-then-logged-entry c =
    let events = c.args.book.now.events in
    let whole = ready c.requires.ground.0 events c.args.ledger.now c.requires.ground.1 in
    IfOk-weaker c.gathered_content.result _ _
    (λ content h e found.
    let new = new-at events c.args.ledger.now whole c.args.gathered.now c.requires.gathered c.args.entry e found c.args.logged c.requires.logged c.if-logged-entry.true in
    h (up_to (log events c.args.ledger.now ++ c.args.gathered.now.entries) e) e new.0 new.1)
    c.gathered_content.ensures

pub returns : goal.returns
returns c = λ e found.
    let events = c.args.book.now.events in
    let log_of = log events c.args.ledger.now in
    let whole = ready c.requires.ground.0 events c.args.ledger.now c.requires.ground.1 in
    let old = old-at events c.args.ledger.now whole c.args.gathered.now c.requires.gathered c.args.entry e found c.args.logged c.requires.logged c.if-logged-entry.false in
    old-content log_of (log_of ++ c.args.gathered.now.entries) c.args.entry e c.in_ok-reply.reply c.in_ok-reply.ensures old.0 old.1
