use Rattle.std.proofs.Common.{◌≡◌, ◌+◌, ◌-◌, ◌<◌, ◌++◌, ◌∷◌, [], true, length, get_or, set, refl, sym, ap, ◌∙◌, subst, arith}
use Rattle.std.specs.Prelude.{bytes_eq, not}
use Rattle.std.specs.Cmp.Lexicographic.{slice_cmp}
use Rattle.std.specs.Ordering.{nat_cmp}
use Rattle.std.specs.BTreeSet.{Updates, contains}
use Rattle.std.proofs.lemmas.List.{get_or_read_under, length-set}
use Rattle.lg_json.specs.Places.{names_view, mixed, other_number, slot_of, slot_place, set_has, known_with, Comes}
use Rattle.lg_json.proofs.Placing.{added_new, added_known, added_other, finds, set_adds, not_not, names_length}
use Rattle.lg_json.proofs.index.add_other.Goals as goal

pub returns-then-taken-eq0 : goal.returns-then-taken-eq0
returns-then-taken-eq0 c =
    let names = names_view c.args.members.now in
    let name = c.args.name.now in
    let slots = c.args.slots.now.items in
    let slot = c.slot_of-slot.result in
    let lengths : c.args.slots.now.len ≡ length slots = c.args.slots.now.ok.0 in
    let is : slot ≡ slot_of (other_number name) (length slots) = c.slot_of-slot.ensures.value ∙ ap (λ n. slot_of n c.len.result) (c.other_number.ensures ∙ ap mixed c.requires.number) ∙ ap (slot_of (other_number name)) (c.len.ensures ∙ lengths) in
    let within : slot < length slots = omega (arith, c.slot_of-slot.ensures.within, c.len.ensures, lengths) in
    let free : get_or slots slot 0 ≡ 0 = sym (get_or_read_under slots slot (length slots) c.index-taken.result.now 0 c.index-taken.ensures within refl) ∙ c.if-taken-eq0.true in (
      omega (arith, length-set slots slot c.one_more.result, c.requires.filled.0),
      λ known comes.
          let added = added_new other_number names name slots known (known_with known name) (set_has c.args.others.now) slot comes (λ q. refl) c.requires.filled.0 is within free in
          (added.0, subst (λ k. Comes (known_with known name) (names ++ name ∷ []) (slot_place other_number (set slots slot k)) (set_has c.args.others.now)) (ap (λ k. k + 1) (names_length c.args.members.now) ∙ sym c.one_more.ensures) added.1),
    )

pub returns-then-is_named : goal.returns-then-is_named
returns-then-is_named c =
    let names = names_view c.args.members.now in
    let name = c.args.name.now in
    let slots = c.args.slots.now.items in
    let slot = c.slot_of-slot.result in
    let lengths : c.args.slots.now.len ≡ length slots = c.args.slots.now.ok.0 in
    let is : slot ≡ slot_of (other_number name) (length slots) = c.slot_of-slot.ensures.value ∙ ap (λ n. slot_of n c.len.result) (c.other_number.ensures ∙ ap mixed c.requires.number) ∙ ap (slot_of (other_number name)) (c.len.ensures ∙ lengths) in
    let within : slot < length slots = omega (arith, c.slot_of-slot.ensures.within, c.len.ensures, lengths) in
    let taken = c.index-taken.result.now in
    let read : taken ≡ get_or slots slot 0 = get_or_read_under slots slot (length slots) taken 0 c.index-taken.ensures within refl in (
      c.requires.filled.0,
      λ known comes.
          added_known names name (slot_place other_number slots) known (known_with known name) (set_has c.args.others.now) (taken - 1) comes (λ q. refl) (finds other_number slots name slot taken is read c.if-taken-eq0.false)
          (ap (λ l. bytes_eq (get_or names (taken - 1) []) l) (sym c.bytes.ensures.value) ∙ sym c.is_named.ensures ∙ c.if-is_named.true),
    )

pub returns : goal.returns
returns c =
    let names = names_view c.args.members.now in
    let name = c.args.name.now in
    let slots = c.args.slots.now.items in
    let slot = c.slot_of-slot.result in
    let lengths : c.args.slots.now.len ≡ length slots = c.args.slots.now.ok.0 in
    let is : slot ≡ slot_of (other_number name) (length slots) = c.slot_of-slot.ensures.value ∙ ap (λ n. slot_of n c.len.result) (c.other_number.ensures ∙ ap mixed c.requires.number) ∙ ap (slot_of (other_number name)) (c.len.ensures ∙ lengths) in
    let within : slot < length slots = omega (arith, c.slot_of-slot.ensures.within, c.len.ensures, lengths) in
    let taken = c.index-taken.result.now in
    let read : taken ≡ get_or slots slot 0 = get_or_read_under slots slot (length slots) taken 0 c.index-taken.ensures within refl in
    let copied : c.in_ok-copy.field-0 ≡ name = c.in_ok-copy.ensures in
    let new_is : not c.in_ok-is_new.is_new ≡ set_has c.args.others.now name = ap not (c.in_ok-is_new.ensures.added ∙ ap (λ k. not (contains (slice_cmp nat_cmp) c.args.others.now k)) copied) ∙ not_not (set_has c.args.others.now name) in (
      c.requires.filled.0,
      λ known comes.
          let added =
          added_other names name (slot_place other_number slots) known (known_with known name) (set_has c.args.others.now) (set_has c.insert.new.self) (taken - 1) comes (λ q. refl) (finds other_number slots name slot taken is read c.if-taken-eq0.false)
          (ap (λ l. bytes_eq (get_or names (taken - 1) []) l) (sym c.bytes.ensures.value) ∙ sym c.is_named.ensures ∙ c.if-is_named.false)
          (set_adds c.args.others.now c.insert.new.self name (subst (λ k. Updates (slice_cmp nat_cmp) c.args.others.now c.insert.new.self k true) copied c.in_ok-is_new.ensures.updates)) in
          (added.0 ∙ sym new_is, added.1),
    )
