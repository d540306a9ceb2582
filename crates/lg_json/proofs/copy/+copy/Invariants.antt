-- What was copied so far is the beginning of what is copied.
use Rattle.std.proofs.Common.{◌≡◌, take}
use Rattle.lg_json.proofs.copy.+copy.Given as goal

abbrev pub invariant-copy_list-loop-item : goal.invariant-copy_list-loop-item
invariant-copy_list-loop-item l = (l.item-items ≡ l.items) × (l.copied ≡ take l.item-index l.item-items)

abbrev pub invariant-copy_members-loop-member : goal.invariant-copy_members-loop-member
invariant-copy_members-loop-member l = (l.member-items ≡ l.members) × (l.copied ≡ take l.member-index l.member-items)
