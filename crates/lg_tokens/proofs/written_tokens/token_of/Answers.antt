use Rattle.std.proofs.Common.{ap, subst, sym, ◌∙◌}
use Rattle.std.specs.Str.{IsUtf8}
use Rattle.std.proofs.lemmas.Str.{IsUtf8-string_bytes}
use Rattle.base64.specs.GeneralPurpose.{encode_of}
use Rattle.base64.specs.Engines.{url_safe_no_pad}
use Rattle.lg_views.specs.Tokens.{token}
use Rattle.lg_tokens.proofs.written_tokens.token_of.Goals as goal

pub returns : goal.returns
unfolding token
returns c =
    c.from_vec.ensures ∙ ap (λ v. v.items) c.into_bytes.ensures.value ∙ c.in_ok-token.ensures.text ∙ ap (encode_of url_safe_no_pad) (c.deref.ensures.value ∙ c.in_ok-text.ensures)

pub from_vec-requires : goal.from_vec-requires
from_vec-requires c = subst IsUtf8 (ap (λ v. v.items) (sym c.into_bytes.ensures.value)) (IsUtf8-string_bytes c.in_ok-token.token)
