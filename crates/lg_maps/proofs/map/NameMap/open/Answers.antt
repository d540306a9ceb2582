use Rattle.std.proofs.Common.{◌≡◌, unwrap_or, sym, ap, ◌∙◌}
use Rattle.lg_containers.specs.NameTable.{get, insert}
use Rattle.lg_maps.proofs.Shown.{get-own, insert-twice, name_there, place_within, same_loan, value_there}
use Rattle.lg_maps.proofs.map.NameMap.open.Goals as goal

pub value_at_mut-requires : goal.value_at_mut-requires
value_at_mut-requires g c = place_within c.open_name.new.names.table c.args.name.now c.in-Ok.place c.in-Ok.ensures.place

pub returns-in-Ok : goal.returns-in-Ok
returns-in-Ok g c =
    let t = c.open_name.new.names.table in
    let name = c.args.name.now in
    let known : c.open_name.new.names.table ≡ insert c.args.self.now c.args.name.now (unwrap_or (get c.args.self.now c.args.name.now) c.args.value) =
    c.in-Ok.ensures.ok ∙ ap (λ u. insert u c.args.name.now (unwrap_or (get u c.args.name.now) c.args.value)) c.self.view_is in (
      same_loan _ _ _ (λ w. ap (λ n. insert t n w) (name_there t name c.in-Ok.place c.in-Ok.ensures.place) ∙ ap (λ u. insert u name w) known ∙ insert-twice c.args.self.now name _ w),
      record {
        writes_back = tt;
        value = ap (λ o. unwrap_or o c.args.value) (sym (value_there t name c.in-Ok.place _ _ c.in-Ok.ensures.place c.value_at_mut.ensures.value) ∙ ap (λ u. get u name) known ∙ get-own c.args.self.now name (unwrap_or (get c.args.self.now name) c.args.value));
      },
    )
