use Rattle.std.proofs.Common.{◌≡◌, ◌+◌, ◌-◌, ◌<◌, ◌++◌, ◌∷◌, [], length, get_or, set, refl, sym, ap, ◌∙◌, subst, arith}
use Rattle.std.specs.Prelude.{bytes_eq, not}
use Rattle.std.proofs.lemmas.List.{get_or_read_under, length-set}
use Rattle.lg_json.specs.Places.{names_view, has, name_number, part_of, slot_of, slot_place, known_with, Comes}
use Rattle.lg_json.proofs.Placing.{has_push, added_new, added_known, added_other, finds, is_added, not_not, or_cond, longer_names, names_length, more_parts}
use Rattle.lg_json.proofs.index.NameIndex.add.Goals as goal

pub returns-then-taken-eq0 : goal.returns-then-taken-eq0
returns-then-taken-eq0 c =
    let names = names_view c.args.members.now in
    let name = c.args.name.now in
    let slots = c.args.self.now.first.items in
    let slot = c.slot_of-slot.result in
    let lengths : c.args.self.now.first.len ≡ length slots = c.args.self.now.first.ok.0 in
    let is : slot ≡ slot_of (name_number name) (length slots) = c.slot_of-slot.ensures.value ∙ ap (λ n. slot_of n c.len.result) (c.name_number-number.ensures ∙ ap name_number c.bytes.ensures.value) ∙ ap (slot_of (name_number name)) (c.len.ensures ∙ lengths) in
    let within : slot < length slots = omega (arith, c.slot_of-slot.ensures.within, c.len.ensures, lengths) in
    let grown = more_parts names c.args.self.now.parts.items _ name c.part_of.result c.requires.indexed.parts c.requires.indexed.count c.in_ok-push.ensures.items (c.part_of.ensures ∙ ap part_of (c.name_number-number.ensures ∙ ap name_number c.bytes.ensures.value)) in
    let known = c.requires.indexed.known in
    let free : get_or slots slot 0 ≡ 0 = sym (get_or_read_under slots slot (length slots) c.index-taken.result.now 0 c.index-taken.ensures within refl) ∙ c.if-taken-eq0.true in
    let added = added_new name_number names name slots (λ q. has q names) (λ q. has q (names ++ name ∷ [])) known slot c.requires.indexed.comes (has_push names name) c.requires.indexed.some is within free in (
      added.0,
      record {
        count = grown.0;
        parts = grown.1;
        some = omega (arith, length-set slots slot c.one_more.result, c.requires.indexed.some);
        more = c.requires.indexed.more;
        known = known;
        comes = subst (λ k. Comes (λ q. has q (names ++ name ∷ [])) (names ++ name ∷ []) (slot_place name_number (set slots slot k)) known) (ap (λ k. k + 1) (names_length c.args.members.now) ∙ sym c.one_more.ensures) added.1;
        rest = longer_names names name _ known _ c.requires.indexed.rest;
      },
    )

pub returns-then-is_named : goal.returns-then-is_named
returns-then-is_named c =
    let names = names_view c.args.members.now in
    let name = c.args.name.now in
    let slots = c.args.self.now.first.items in
    let slot = c.slot_of-slot.result in
    let lengths : c.args.self.now.first.len ≡ length slots = c.args.self.now.first.ok.0 in
    let is : slot ≡ slot_of (name_number name) (length slots) = c.slot_of-slot.ensures.value ∙ ap (λ n. slot_of n c.len.result) (c.name_number-number.ensures ∙ ap name_number c.bytes.ensures.value) ∙ ap (slot_of (name_number name)) (c.len.ensures ∙ lengths) in
    let within : slot < length slots = omega (arith, c.slot_of-slot.ensures.within, c.len.ensures, lengths) in
    let grown = more_parts names c.args.self.now.parts.items _ name c.part_of.result c.requires.indexed.parts c.requires.indexed.count c.in_ok-push.ensures.items (c.part_of.ensures ∙ ap part_of (c.name_number-number.ensures ∙ ap name_number c.bytes.ensures.value)) in
    let known = c.requires.indexed.known in
    let taken = c.index-taken.result.now in
    let read : taken ≡ get_or slots slot 0 = get_or_read_under slots slot (length slots) taken 0 c.index-taken.ensures within refl in
    let added =
    added_known names name (slot_place name_number slots) (λ q. has q names) (λ q. has q (names ++ name ∷ [])) known (taken - 1) c.requires.indexed.comes (has_push names name) (finds name_number slots name slot taken is read c.if-taken-eq0.false)
    (ap (λ l. bytes_eq (get_or names (taken - 1) []) l) (sym c.bytes-2.ensures.value) ∙ sym c.is_named.ensures ∙ c.if-is_named.true) in
    (added.0, record { count = grown.0; parts = grown.1; some = c.requires.indexed.some; more = c.requires.indexed.more; known = known; comes = added.1; rest = longer_names names name _ known _ c.requires.indexed.rest })

pub returns : goal.returns
returns c =
    let names = names_view c.args.members.now in
    let name = c.args.name.now in
    let slots = c.args.self.now.first.items in
    let slot = c.slot_of-slot.result in
    let lengths : c.args.self.now.first.len ≡ length slots = c.args.self.now.first.ok.0 in
    let is : slot ≡ slot_of (name_number name) (length slots) = c.slot_of-slot.ensures.value ∙ ap (λ n. slot_of n c.len.result) (c.name_number-number.ensures ∙ ap name_number c.bytes.ensures.value) ∙ ap (slot_of (name_number name)) (c.len.ensures ∙ lengths) in
    let within : slot < length slots = omega (arith, c.slot_of-slot.ensures.within, c.len.ensures, lengths) in
    let grown = more_parts names c.args.self.now.parts.items _ name c.part_of.result c.requires.indexed.parts c.requires.indexed.count c.in_ok-push.ensures.items (c.part_of.ensures ∙ ap part_of (c.name_number-number.ensures ∙ ap name_number c.bytes.ensures.value)) in
    let known = c.requires.indexed.known in
    let taken = c.index-taken.result.now in
    let read : taken ≡ get_or slots slot 0 = get_or_read_under slots slot (length slots) taken 0 c.index-taken.ensures within refl in
    let second = c.in_ok-is_new.ensures.1 known c.requires.indexed.rest in
    let added =
    added_other names name (slot_place name_number slots) (λ q. has q names) (λ q. has q (names ++ name ∷ [])) known (known_with known name) (taken - 1) c.requires.indexed.comes (has_push names name) (finds name_number slots name slot taken is read c.if-taken-eq0.false)
    (ap (λ l. bytes_eq (get_or names (taken - 1) []) l) (sym c.bytes-2.ensures.value) ∙ sym c.is_named.ensures ∙ c.if-is_named.false)
    (λ q. or_cond (known q) (bytes_eq name q)) in
    is_added names name _ (not c.in_ok-is_new.is_new) c.in_ok-is_new.is_new (added.0 ∙ second.0) (sym (not_not c.in_ok-is_new.is_new))
    (record { count = grown.0; parts = grown.1; some = c.requires.indexed.some; more = c.in_ok-is_new.ensures.0; known = known_with known name; comes = added.1; rest = second.1 })
