use Rattle.std.proofs.Common.{◌≡◌, List, ℕ, sym, subst, ◌∙◌, rules, w64}
use Rattle.std.proofs.lemmas.Int.{to_z-of_z}
use mir.Val.{to_z, of_z}
use Rattle.lg_time.specs.Canonical.{moment_text}
use Rattle.lg_time.specs.Moment.{IsMoment}
use Rattle.lg_tokens.proofs.Dates.{date_before, date_lacks}
use Rattle.lg_tokens.proofs.members.read_date.Goals as goal

pub returns-in_err-text-clause-found : goal.returns-in_err-text-clause-found
returns-in_err-text-clause-found c date more h e =
    let d = c.dates_read_back.ensures date h in
    absurd (c.in_err-text.ensures (moment_text date) more (date_lacks date d) (e ∙ date_before date more d))

pub returns-in-Ok-clause-found : goal.returns-in-Ok-clause-found
returns-in-Ok-clause-found c date more h e =
    let d = c.dates_read_back.ensures date h in
    let cut = c.in_ok-text.ensures (moment_text date) more (date_lacks date d) (e ∙ date_before date more d) in
    let only = c.in-Ok.ensures.only date (subst (λ (l : List ℕ). IsMoment l date) (sym cut.0) d.is) in
    let same : to_z w64 (of_z w64 c.in-Ok.moment) ≡ c.in-Ok.moment = search (rules, to_z-of_z) in
    (same ∙ (cc only), cut.1)

pub returns-in-Err-clause-found : goal.returns-in-Err-clause-found
returns-in-Err-clause-found c date more h e =
    let d = c.dates_read_back.ensures date h in
    let cut = c.in_ok-text.ensures (moment_text date) more (date_lacks date d) (e ∙ date_before date more d) in
    c.in-Err.ensures.none date (subst (λ (l : List ℕ). IsMoment l date) (sym cut.0) d.is)
