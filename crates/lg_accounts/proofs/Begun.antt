-- A change is dated by a date where the first one is, since the dates of entries never fall.
use Rattle.std.proofs.Common.{◌≡◌, ℕ, suc, ℤ, ◌≤ℤ◌, Bool, true, false, cond, ◌&&◌, ◌||◌, List, [], ◌∷◌, ◌++◌, map, slice_get, refl, sym, ap, subst, ◌∙◌, arith}
use Rattle.std.specs.Prelude.{Option, Some, None}
use Rattle.std.specs.List.{filter, list_any}
use Rattle.std.proofs.lemmas.Int.{ints}
use Rattle.std.proofs.lemmas.List.{map-append}
use Rattle.std.proofs.lemmas.List.Elements.{filter-append}
use Rattle.lg_containers.specs.NameTable as table
use Rattle.lg_meta.specs.declared.change.DatedChange.{DatedChange}
use Rattle.lg_meta.specs.MetaFold.{changes_about, dated_change, first_date}
use Rattle.lg_types.specs.declared.records.Entry.{Entry}
use Rattle.lg_types.specs.declared.records.EntryBody.{EntryBody}
use Rattle.lg_types.specs.declared.records.EntryBody.TheVariants.{NewTransaction, SetMetadata, Reverted, DeleteMetadata}
use Rattle.lg_types.specs.declared.records.Target.{Target}
use Rattle.lg_types.specs.Changes.{Change, MetaOf, account_change, body_changes, changes, entry_changes, is_about, is_changed_to}
use Rattle.lg_types.specs.Lists.{Each}
use Rattle.lg_types.specs.Tally.{is_to}
use Rattle.lg_types.proofs.Eachs.{each-append, each-map}
use Rattle.lg_accounts.specs.Dates.{NeverFall, is_begun}
use Rattle.lg_accounts.proofs.Known.{any-map, any-filter}

-- ---- entries

each-at : {X : Type 0} (P : X → Type 0) (xs : List X) → ((k : ℕ) (x : X) → slice_get xs k ≡ Some x → P x) → Each P xs
each-at P [] h = tt
each-at P (x ∷ xs) h = (h 0 x refl, each-at P xs (λ k y at. h (suc k) y at))

later_entries : (e : Entry) (g : List Entry) → NeverFall (e ∷ g) → Each (λ x. e.date ≤ℤ x.date) g
later_entries e g rise = each-at (λ x. e.date ≤ℤ x.date) g (λ k x at. rise 0 (suc k) e x refl at (omega arith))

rest_rises : (e : Entry) (g : List Entry) → NeverFall (e ∷ g) → NeverFall g
rest_rises e g rise j k d x first second least = rise (suc j) (suc k) d x first second (omega (arith, least))

-- ---- the changes of an entry are dated as it is

given_dated : (date : ℤ) (given : List (List ℕ × MetaOf)) → Each (λ (c : Change). c.date ≡ date) (map (account_change date) given)
given_dated date [] = tt
given_dated date (p ∷ ps) = (refl, given_dated date ps)

body_dated : (date : ℤ) (body : EntryBody) → Each (λ (c : Change). c.date ≡ date) (body_changes date body)
body_dated date (NewTransaction t given) = (refl, given_dated date (table.pairs_of given))
body_dated date (SetMetadata target metadata) = (refl, tt)
body_dated date (Reverted id t) = (refl, tt)
body_dated date (DeleteMetadata target name) = (refl, tt)

each-filter : {X : Type 0} (P : X → Type 0) (test : X → Bool) (xs : List X) → Each P xs → Each P (filter test xs)
each-filter P test [] h = tt
each-filter P test (x ∷ xs) h = kept (test x) (each-filter P test xs h.1)
  where
    kept : (b : Bool) → Each P (filter test xs) → Each P (cond b (x ∷ filter test xs) (filter test xs))
    kept true rest = (h.0, rest)
    kept false rest = rest

each-dated : (P : ℤ → Type 0) (cs : List Change) → Each (λ c. P c.date) cs → Each (λ (d : DatedChange). P d.date) (map dated_change cs)
each-dated P [] h = tt
each-dated P (c ∷ cs) h = (h.0, each-dated P cs h.1)

module _ (target : Target) where
  own : Entry → List DatedChange
  own e = map dated_change (filter (is_about target) (entry_changes e))

  about-more : (e : Entry) (g : List Entry) → changes_about target (e ∷ g) ≡ own e ++ changes_about target g
  unfolding own
  about-more e g =
      ap (map dated_change) (filter-append (is_about target) (entry_changes e) (changes g))
      ∙ map-append dated_change (filter (is_about target) (entry_changes e)) (filter (is_about target) (changes g))

  own_dated : (e : Entry) → Each (λ (d : DatedChange). d.date ≡ e.date) (own e)
  unfolding own
  own_dated e = each-dated (λ date. date ≡ e.date) (filter (is_about target) (entry_changes e)) (each-filter (λ c. c.date ≡ e.date) (is_about target) (entry_changes e) (body_dated e.date e.body))

  same_le : (a b : ℤ) → b ≡ a → a ≤ℤ b
  same_le a b h = grind (arith, ints, h)

  le_trans : (a b c : ℤ) → a ≤ℤ b → b ≤ℤ c → a ≤ℤ c
  le_trans a b c h k = grind (arith, ints, h, k)

  -- no change of entries that are dated from a date on is dated before it
  late : (date : ℤ) (g : List Entry) → Each (λ x. date ≤ℤ x.date) g → Each (λ (d : DatedChange). date ≤ℤ d.date) (changes_about target g)
  late date [] h = tt
  late date (e ∷ g) h =
      subst (Each (λ (d : DatedChange). date ≤ℤ d.date)) (sym (about-more e g))
      (each-append (λ (d : DatedChange). date ≤ℤ d.date) (own e) (changes_about target g)
      (each-map (λ (d : DatedChange) is. le_trans date e.date d.date h.0 (same_le e.date d.date is)) (own e) (own_dated e))
      (late date g h.1))

  -- the first change is the earliest
  abbrev IsLed : List DatedChange → Type 0
  IsLed [] = Unit {0}
  IsLed (d ∷ ds) = Each (λ (x : DatedChange). d.date ≤ℤ x.date) ds

  led-append : (e : Entry) (xs ys : List DatedChange) → Each (λ (d : DatedChange). d.date ≡ e.date) xs → Each (λ (d : DatedChange). e.date ≤ℤ d.date) ys → IsLed ys → IsLed (xs ++ ys)
  led-append e [] ys dated later led = led
  led-append e (d ∷ xs) ys dated later led =
      each-append (λ (x : DatedChange). d.date ≤ℤ x.date) xs ys
      (each-map (λ (x : DatedChange) is. le_trans d.date e.date x.date (same_le d.date e.date (sym dated.0)) (same_le e.date x.date is)) xs dated.1)
      (each-map (λ (x : DatedChange) le. le_trans d.date e.date x.date (same_le d.date e.date (sym dated.0)) le) ys later)

  led : (g : List Entry) → NeverFall g → IsLed (changes_about target g)
  led [] rise = tt
  led (e ∷ g) rise =
      subst IsLed (sym (about-more e g))
      (led-append e (own e) (changes_about target g) (own_dated e) (late e.date g (later_entries e g rise)) (led g (rest_rises e g rise)))

  not_by : (pit : Option ℤ) (a b : ℤ) → is_to pit a ≡ false → a ≤ℤ b → is_to pit b ≡ false
  not_by None a b h le = h
  not_by (Some last) a b h le = grind (arith, ints, h, le)

  none_by : (pit : Option ℤ) (date : ℤ) (ds : List DatedChange) → is_to pit date ≡ false → Each (λ (x : DatedChange). date ≤ℤ x.date) ds → list_any (λ (d : DatedChange). is_to pit d.date) ds ≡ false
  none_by pit date [] h later = refl
  none_by pit date (d ∷ ds) h later = ap (λ (b : Bool). b || list_any (λ (x : DatedChange). is_to pit x.date) ds) (not_by pit date d.date h later.0) ∙ none_by pit date ds h later.1

  led_by : (pit : Option ℤ) (ds : List DatedChange) → IsLed ds → list_any (λ (d : DatedChange). is_to pit d.date) ds ≡ is_begun pit (first_date ds)
  led_by pit [] h = refl
  led_by pit (d ∷ ds) h = by_test (is_to pit d.date) refl
    where
      by_test : (b : Bool) → is_to pit d.date ≡ b → (is_to pit d.date || list_any (λ (x : DatedChange). is_to pit x.date) ds) ≡ is_to pit d.date
      by_test true is = ap (λ (b : Bool). b || list_any (λ (x : DatedChange). is_to pit x.date) ds) is ∙ sym is
      by_test false is = ap (λ (b : Bool). b || list_any (λ (x : DatedChange). is_to pit x.date) ds) is ∙ none_by pit d.date ds is h ∙ sym is

  pub changed_by : (pit : Option ℤ) (g : List Entry) → NeverFall g → list_any (λ c. is_about target c && is_changed_to pit c) (changes g) ≡ is_begun pit (first_date (changes_about target g))
  changed_by pit g rise =
      sym (any-map (λ (d : DatedChange). is_to pit d.date) dated_change (filter (is_about target) (changes g)) ∙ any-filter (λ c. is_changed_to pit c) (is_about target) (changes g))
      ∙ led_by pit (changes_about target g) (led g rise)
