use Rattle.std.proofs.Common.{◌++◌, codes, sym, ap, ◌∙◌}
use Rattle.std.specs.Option.{option_map}
use Rattle.lg_base.proofs.Feeds.{then, stop}
use Rattle.lg_containers.specs.CanonicalTexts.{member_text}
use Rattle.lg_containers.specs.NameTable.{pairs_of}
use Rattle.lg_containers.specs.Pairs.{pair_of}
use Rattle.lg_replies.proofs.Members.{text_there}
use Rattle.lg_replies.proofs.shown.show_after_comma.Goals as goal

pub returns-in_err-piece-in-Some : goal.returns-in_err-piece-in-Some
returns-in_err-piece-in-Some g c =
    rw (← text_there (λ member. codes "," ++ member_text g.V.Shown.shown member) (pairs_of c.args.members.now) c.args.place (c.in-Some.name.now, c.in-Some.value.now) (sym c.get.ensures ∙ ap (option_map pair_of) c.in-Some.is))
    (stop _ c.from_residual.ensures.0 c.in_err-piece-in-Some.ensures)

pub returns-in_ok-piece-in-Some : goal.returns-in_ok-piece-in-Some
returns-in_ok-piece-in-Some g c =
    rw (← text_there (λ member. codes "," ++ member_text g.V.Shown.shown member) (pairs_of c.args.members.now) c.args.place (c.in-Some.name.now, c.in-Some.value.now) (sym c.get.ensures ∙ ap (option_map pair_of) c.in-Some.is))
    (then c.in_ok-piece-in-Some.ensures c.show_member.ensures)
