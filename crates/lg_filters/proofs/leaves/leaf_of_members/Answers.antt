use Rattle.std.proofs.Common.{arith}
use Rattle.lg_json.specs.Tree as json
use Rattle.lg_codec.specs.Seen.{members_seen}
use Rattle.lg_filters.proofs.LeafParts.{no_leaf, not_one}
use Rattle.lg_filters.proofs.leaves.leaf_of_members.Goals as goal

pub returns-in-len2-up : goal.returns-in-len2-up
returns-in-len2-up c =
    let ms = c.args.members.now in
    no_leaf c.args.kind c.args.name.now (json.Tree.members (members_seen ms)) (not_one ms (λ e. let l = c.in-len2-up.len_at_least in omega arith))
