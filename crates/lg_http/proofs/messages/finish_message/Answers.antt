use Rattle.std.proofs.Common.{◌≡◌, ℕ, ◌+◌, List, subst, sym}
use Rattle.lg_heads.specs.Heads.{IsHeadAt}
use Rattle.lg_inlet.specs.Bodies.{IsShort}
use Rattle.lg_http.specs.Bodies.{IsBodySize}
use Rattle.lg_http.specs.Messages.{LacksBody}
use Rattle.lg_http.specs.declared.body_size.BodySize.TheVariants.{Bytes}
use Rattle.lg_http.proofs.MessageLemmas.{lacks_body, ok_next}
use Rattle.lg_http.proofs.Wanting.{ok_weaker, err_weaker, loses_none}
use Rattle.lg_http.proofs.messages.finish_message.Goals as goal

pub returns-in-Ok-Bytes-clause-took : goal.returns-in-Ok-Bytes-clause-took
returns-in-Ok-Bytes-clause-took g c =
    let limit = g.L.BodyLimits.limit in
    let h = c.requires.0 in
    let seen = subst (λ (l : List ℕ). IsHeadAt l c.args.head h) (sym c.unread.ensures) c.requires.1 in
    let is : c.in-Ok-Bytes.field-0 ≡ Bytes c.in-Ok-Bytes.size = cc in
    let fits = subst (IsBodySize limit h) is (c.in-Ok-Bytes.ensures h seen) in
    ok_weaker g.S.Source (IsShort (c.args.head.len + c.in-Ok-Bytes.size)) (LacksBody limit) c.args.source.now c.take_message.new.source c.args.inbox.now c.take_message.new.inbox c.take_message.result
    (λ front short. lacks_body limit h _ front c.args.head c.in-Ok-Bytes.size c.requires.1 fits.0 fits.1 short) c.take_message.ensures.took

pub returns-in-Ok-Bytes-clause-stopped : goal.returns-in-Ok-Bytes-clause-stopped
returns-in-Ok-Bytes-clause-stopped g c =
    let limit = g.L.BodyLimits.limit in
    let h = c.requires.0 in
    let seen = subst (λ (l : List ℕ). IsHeadAt l c.args.head h) (sym c.unread.ensures) c.requires.1 in
    let is : c.in-Ok-Bytes.field-0 ≡ Bytes c.in-Ok-Bytes.size = cc in
    let fits = subst (IsBodySize limit h) is (c.in-Ok-Bytes.ensures h seen) in
    err_weaker g.S.Source (IsShort (c.args.head.len + c.in-Ok-Bytes.size)) (LacksBody limit) c.args.source.now c.take_message.new.source c.args.inbox.now c.take_message.new.inbox c.take_message.result
    (λ front short. lacks_body limit h _ front c.args.head c.in-Ok-Bytes.size c.requires.1 fits.0 fits.1 short) c.take_message.ensures.stopped

pub returns-in-Ok-Bytes-clause-next : goal.returns-in-Ok-Bytes-clause-next
returns-in-Ok-Bytes-clause-next g c =
    let limit = g.L.BodyLimits.limit in
    let h = c.requires.0 in
    let seen = subst (λ (l : List ℕ). IsHeadAt l c.args.head h) (sym c.unread.ensures) c.requires.1 in
    let is : c.in-Ok-Bytes.field-0 ≡ Bytes c.in-Ok-Bytes.size = cc in
    let fits = subst (IsBodySize limit h) is (c.in-Ok-Bytes.ensures h seen) in
    ok_next limit h g.S.Source (IsShort (c.args.head.len + c.in-Ok-Bytes.size)) c.args.source.now c.take_message.new.source c.args.inbox.now c.take_message.new.inbox c.args.head c.in-Ok-Bytes.size c.take_message.result
    c.requires.1 fits c.take_message.ensures.took c.take_message.ensures.next

pub returns-in-Err-clause-stopped : goal.returns-in-Err-clause-stopped
returns-in-Err-clause-stopped g c = loses_none g.S.Source c.args.source.now c.args.inbox.now
