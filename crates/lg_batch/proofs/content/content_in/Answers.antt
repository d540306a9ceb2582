use Rattle.std.proofs.Common.{List, ap, ◌∙◌}
use Rattle.std.specs.Option.{option_map}
use Rattle.lg_codec.specs.Seen.{members_seen}
use Rattle.lg_json.specs.Tree.{tree}
use Rattle.lg_json.specs.declared.json.Member.{Member}
use Rattle.lg_readings.specs.Values.{value_of}
use Rattle.lg_batch.proofs.SameMembers.{same_content}
use Rattle.lg_batch.proofs.content.content_in.Goals as goal

pub returns : goal.returns
returns g c =
    same_content c.args.lowest (members_seen c.args.members) (members_seen c.as_slice.result.now) (option_map tree c.take_body-body.result) c.take_body-body.ensures.body
    (λ name h. ap (λ (ms : List Member). value_of name (members_seen ms)) c.as_slice.ensures ∙ c.take_body-body.ensures.others name h) c.content_with.result c.content_with.ensures
