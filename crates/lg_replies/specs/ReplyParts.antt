-- The texts of the pieces of the text of a page, of a list's results and of a reply.
use Rattle.std.specs.Prelude.{ℕ, List}
use Rattle.lg_base.specs.Texts.{quoted}
use Rattle.lg_containers.specs.CanonicalTexts.{list_text}
use Rattle.lg_types.specs.CallTexts.{truth_text}
use Rattle.lg_types.specs.EntryTexts.{ledger_text}
use Rattle.lg_types.specs.PartTexts.{part_text, optional_text}
use Rattle.lg_views.specs.ReplyTexts.{items_text, next_text, action_text, data_member, bulk_item_text, balances_text, stats_text}
use Rattle.lg_views.specs.ViewTexts.{transaction_view_text, account_view_text}
use Rattle.lg_replies.specs.declared.reply_parts.DataPart.{DataPart}
use Rattle.lg_replies.specs.declared.reply_parts.DataPart.TheVariants as parts
use Rattle.lg_replies.specs.declared.reply_parts.ReplyPart.{ReplyPart}
use Rattle.lg_replies.specs.declared.reply_parts.ReplyPart.TheVariants.{Base, Truth, Next, Items, Action, Transaction}

abbrev pub reply_part_text : ReplyPart → List ℕ
reply_part_text (Base part) = part_text part
reply_part_text (Truth truth) = truth_text truth
reply_part_text (Next token) = optional_text next_text token.now
reply_part_text (Items items) = items_text items.now
reply_part_text (Action action) = quoted (action_text action)
reply_part_text (Transaction view) = optional_text data_member view.now

abbrev pub data_part_text : DataPart → List ℕ
data_part_text (parts.Transaction view) = transaction_view_text view.now
data_part_text (parts.Account view) = account_view_text view.now
data_part_text (parts.Ledger info) = ledger_text info.now
data_part_text (parts.Bulk view) = list_text bulk_item_text view.now.items
data_part_text (parts.Balances balances) = balances_text balances.now
data_part_text (parts.Stats accounts transactions) = stats_text accounts transactions
