use Rattle.std.proofs.Common.{sym, ap, subst}
use Rattle.std.specs.Str.{IsUtf8}
use Rattle.std.proofs.lemmas.Str.{IsUtf8-string_bytes}
use Rattle.lg_filters.proofs.paths.joined.Goals as goal

pub from_vec-requires : goal.from_vec-requires
from_vec-requires c = subst IsUtf8 (ap (λ v. v.items) (sym c.into_bytes.ensures.value)) (IsUtf8-string_bytes c.in_ok-text.text)
