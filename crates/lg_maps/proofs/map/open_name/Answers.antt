use Rattle.std.proofs.Common.{◌≡◌, sym, ap, subst, ◌∙◌}
use Rattle.lg_containers.specs.NameTable.{pairs_of, insert}
use Rattle.lg_containers.specs.Places.{IsAt, BelongsAt}
use Rattle.lg_maps.proofs.Shown.{opened_new, opened_there, stands_new}
use Rattle.lg_maps.proofs.map.open_name.Goals as goal

pub returns-in-Ok-clause-ok : goal.returns-in-Ok-clause-ok
returns-in-Ok-clause-ok g c =
    let at : IsAt c.args.name.now (pairs_of c.args.names.now.table) c.in-Ok.place = rw (← c.bytes.ensures.value) c.in-Ok.ensures in
    opened_there c.args.names.now.table c.args.name.now c.in-Ok.place c.args.value at

pub returns-in_ok-prepare-in-Err-clause-place : goal.returns-in_ok-prepare-in-Err-clause-place
returns-in_ok-prepare-in-Err-clause-place g c =
    let gap : BelongsAt c.args.name.now (pairs_of c.args.names.now.table) c.in-Err.place = rw (← c.bytes.ensures.value) c.in-Err.ensures in
    let new : c.insert_at.new.self.table ≡ insert c.args.names.now.table c.args.name.now c.args.value =
    ap (λ v. v.table) c.insert_at.ensures
    ∙ ap (λ v. insert v.table c.in_ok-own-in-Err.own c.args.value) c.in_ok-prepare-in-Err.ensures.ok
    ∙ ap (λ n. insert c.args.names.now.table n c.args.value) c.in_ok-own-in-Err.ensures in
    subst (λ t. IsAt c.args.name.now (pairs_of t) c.in-Err.place) (sym new) (stands_new c.args.names.now.table c.args.name.now c.in-Err.place c.args.value gap)

pub returns-in_ok-prepare-in-Err-clause-ok : goal.returns-in_ok-prepare-in-Err-clause-ok
returns-in_ok-prepare-in-Err-clause-ok g c =
    let gap : BelongsAt c.args.name.now (pairs_of c.args.names.now.table) c.in-Err.place = rw (← c.bytes.ensures.value) c.in-Err.ensures in
    let new : c.insert_at.new.self.table ≡ insert c.args.names.now.table c.args.name.now c.args.value =
    ap (λ v. v.table) c.insert_at.ensures
    ∙ ap (λ v. insert v.table c.in_ok-own-in-Err.own c.args.value) c.in_ok-prepare-in-Err.ensures.ok
    ∙ ap (λ n. insert c.args.names.now.table n c.args.value) c.in_ok-own-in-Err.ensures in
    new ∙ opened_new c.args.names.now.table c.args.name.now c.in-Err.place c.args.value gap
