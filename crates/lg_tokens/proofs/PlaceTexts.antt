-- The texts of places: which place each list has, and that no comma stands in its text.
use Rattle.std.proofs.Common.{◌≡◌, inl, ℕ, ◌<◌, ◌^◌, List, [], ◌∷◌, ◌++◌, refl, sym, ap, subst, ◌∙◌, arith}
use Rattle.std.specs.Prelude.{codes, decimal}
use Rattle.std.specs.List.{AllByRecursion}
use Rattle.lg_containers.specs.AddressGrammar.{IsAddress}
use Rattle.lg_containers.specs.AssetGrammar.{IsAsset}
use Rattle.lg_base.specs.Texts.{quoted}
use Rattle.lg_types.specs.declared.filters.ListKind.{ListKind}
use Rattle.lg_types.specs.declared.filters.ListKind.TheVariants.{Ledgers, Accounts, Transactions, Logs, Volumes, Aggregate}
use Rattle.lg_types.specs.declared.filters.After.{After}
use Rattle.lg_types.specs.declared.filters.After.TheVariants.{Place, Address as AddressPlace, Pair}
use Rattle.lg_views.specs.Tokens.{after_text}
use Rattle.lg_readings.specs.TokenReadings.{IsPlaceOf}
use Rattle.lg_tokens.specs.Parts.{Lacks}
use Rattle.lg_tokens.proofs.Names.{IsNameByte, lacks_all, lacks_append, address_bytes, asset_bytes, stands_all, pair_stands, quoted_before, decimal_lacks}

pub record IsNumberPlace (place : After) : Type 0 where
  pub number : ℕ
  pub is : place ≡ Place number
  pub small : number < 2 ^ 64

pub number_place : (place : After) → IsPlaceOf Ledgers place → IsNumberPlace place
number_place (Place n) h = record { number = n; is = refl; small = h }
number_place (AddressPlace address) h = absurd h
number_place (Pair account asset) h = absurd h

pub record IsAddressPlace (place : After) : Type 0 where
  pub address : List ℕ
  pub is : place ≡ AddressPlace address
  pub named : IsAddress address

pub address_place : (place : After) → IsPlaceOf Accounts place → IsAddressPlace place
address_place (Place n) h = absurd h
address_place (AddressPlace address) h = record { address = address; is = refl; named = h }
address_place (Pair account asset) h = absurd h

pub record IsPairPlace (place : After) : Type 0 where
  pub account : List ℕ
  pub asset : List ℕ
  pub is : place ≡ Pair account asset
  pub named : IsAddress account
  pub asset_named : IsAsset asset

pub pair_place : (place : After) → IsPlaceOf Volumes place → IsPairPlace place
pair_place (Place n) h = absurd h
pair_place (AddressPlace address) h = absurd h
pair_place (Pair account asset) h = record { account = account; asset = asset; is = refl; named = h.0; asset_named = h.1 }

pub number_text : (place : After) (bytes : List ℕ) (p : IsNumberPlace place) → bytes ≡ after_text place ++ 125 ∷ [] → bytes ≡ decimal p.number ++ 125 ∷ []
number_text place bytes p e = e ∙ ap (λ (x : After). after_text x ++ 125 ∷ []) p.is

pub address_text : (place : After) (bytes : List ℕ) (p : IsAddressPlace place) → bytes ≡ after_text place ++ 125 ∷ [] → bytes ≡ 34 ∷ (p.address ++ 34 ∷ 125 ∷ [])
address_text place bytes p e =
    e ∙ (ap (λ (x : After). after_text x ++ 125 ∷ []) p.is ∙ quoted_before p.address (125 ∷ []) (stands_all p.address (address_bytes p.address p.named)))

pub pair_text : (place : After) (bytes : List ℕ) (p : IsPairPlace place) → bytes ≡ after_text place ++ 125 ∷ [] → bytes ≡ 34 ∷ ((p.account ++ 32 ∷ p.asset) ++ 34 ∷ 125 ∷ [])
pair_text place bytes p e =
    e ∙ (ap (λ (x : After). after_text x ++ 125 ∷ []) p.is
    ∙ quoted_before (p.account ++ 32 ∷ p.asset) (125 ∷ []) (pair_stands p.account p.asset (address_bytes p.account p.named) (asset_bytes p.asset p.asset_named)))

-- between quotes there is no comma where there is none inside
quoted_lacks : (bytes : List ℕ) → AllByRecursion IsNameByte bytes → Lacks 44 (quoted bytes)
quoted_lacks bytes h = subst (Lacks 44) (sym (ap (λ (l : List ℕ). 34 ∷ (l ++ 34 ∷ [])) (stands_all bytes h))) (omega arith, lacks_append 44 bytes (34 ∷ []) (lacks_all 44 bytes (omega arith) h) (omega arith, tt))

pair_lacks : (a b : List ℕ) → AllByRecursion IsNameByte a → AllByRecursion IsNameByte b → Lacks 44 (quoted (a ++ 32 ∷ b))
pair_lacks a b h k =
    subst (Lacks 44) (sym (ap (λ (l : List ℕ). 34 ∷ (l ++ 34 ∷ [])) (pair_stands a b h k)))
    (omega arith, lacks_append 44 (a ++ 32 ∷ b) (34 ∷ []) (lacks_append 44 a (32 ∷ b) (lacks_all 44 a (omega arith) h) (omega arith, lacks_all 44 b (omega arith) k)) (omega arith, tt))

number_lacks : (n : ℕ) → n < 2 ^ 64 → Lacks 44 (decimal n)
number_lacks n h = decimal_lacks 44 n (inl (omega arith)) h

pub place_lacks : (kind : ListKind) (place : After) → IsPlaceOf kind place → Lacks 44 (after_text place)
place_lacks Ledgers place h = let p = number_place place h in subst (λ (x : After). Lacks 44 (after_text x)) (sym p.is) (number_lacks p.number p.small)
place_lacks Transactions place h = let p = number_place place h in subst (λ (x : After). Lacks 44 (after_text x)) (sym p.is) (number_lacks p.number p.small)
place_lacks Logs place h = let p = number_place place h in subst (λ (x : After). Lacks 44 (after_text x)) (sym p.is) (number_lacks p.number p.small)
place_lacks Accounts place h = let p = address_place place h in subst (λ (x : After). Lacks 44 (after_text x)) (sym p.is) (quoted_lacks p.address (address_bytes p.address p.named))
place_lacks Volumes place h = let p = pair_place place h in subst (λ (x : After). Lacks 44 (after_text x)) (sym p.is) (pair_lacks p.account p.asset (address_bytes p.account p.named) (asset_bytes p.asset p.asset_named))
place_lacks Aggregate place h = absurd h

-- what stands behind the first letters of the place's member
abbrev pub place_rest : After → List ℕ
place_rest place = codes "fter\":" ++ (after_text place ++ codes "}")

pub rest_lacks : (kind : ListKind) (place : After) → IsPlaceOf kind place → Lacks 44 (place_rest place)
rest_lacks kind place h =
    (omega arith, (omega arith, (omega arith, (omega arith, (omega arith, (omega arith, lacks_append 44 (after_text place) (codes "}") (place_lacks kind place h) (omega arith, tt)))))))
