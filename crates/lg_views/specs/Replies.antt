-- Replies, in short.
use Rattle.std.specs.Prelude.{true, false, Option, Some, None}
use Rattle.lg_types.specs.declared.refusals.Refusal.{Refusal}
use Rattle.lg_views.specs.declared.replies.Reply.{Reply}
use Rattle.lg_views.specs.declared.replies.Content.{Content}
use Rattle.lg_views.specs.declared.replies.Content.TheVariants.{Created, Reverted, Refused}
use Rattle.lg_views.specs.declared.views.TransactionView.{TransactionView}

-- a reply that is no first reply of a kept key
abbrev pub plain : Content → Reply
plain content = record { hit = false; content = content }

-- the first reply of a kept key
abbrev pub repeated : Content → Reply
repeated content = record { hit = true; content = content }

abbrev pub refused : Refusal → Reply
refused refusal = plain (Refused refusal)

-- the transaction that a creation or a revert is answered with
abbrev pub shown_transaction : Content → Option TransactionView
shown_transaction (Created view) = Some view
shown_transaction (Reverted view) = Some view
shown_transaction _ = None
