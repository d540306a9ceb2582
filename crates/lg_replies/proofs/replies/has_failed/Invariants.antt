use Rattle.std.proofs.Common.{◌≡◌, drop}
use Rattle.std.specs.List.{list_any}
use Rattle.lg_views.specs.ReplyTexts.{is_failed}
use Rattle.lg_replies.proofs.replies.has_failed.Given as goal

abbrev pub invariant-loop-item : goal.invariant-loop-item
invariant-loop-item l =
    list_any is_failed (drop l.item-index l.item-items) ≡ list_any is_failed l.view.items
