-- The texts of the pieces of the text of a transaction or an account.
use Rattle.std.specs.Prelude.{ℕ, List}
use Rattle.lg_types.specs.CallTexts.{truth_text}
use Rattle.lg_types.specs.PartTexts.{optional_text}
use Rattle.lg_types.specs.RecordPartTexts.{record_part_text}
use Rattle.lg_views.specs.ViewTexts.{reverted_at_text, assets_member, accounts_member}
use Rattle.lg_replies.specs.declared.view_parts.ViewPart.{ViewPart}
use Rattle.lg_replies.specs.declared.view_parts.ViewPart.TheVariants.{Record, Truth, RevertedAt, Assets, Accounts}

abbrev pub view_part_text : ViewPart → List ℕ
view_part_text (Record part) = record_part_text part
view_part_text (Truth truth) = truth_text truth
view_part_text (RevertedAt date) = optional_text reverted_at_text date.now
view_part_text (Assets name volumes) = assets_member name.now volumes.now
view_part_text (Accounts name volumes) = accounts_member name.now volumes.now
