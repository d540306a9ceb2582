-- The reading comes over what stands before a value to the state there, if no fault comes.
use Rattle.std.proofs.Common.{◌≡◌, ℕ, suc, ◌+◌, nat_lt, List, [], ◌∷◌, ◌++◌, length, Ok, Err, inl, inr, refl, ap, ◌∙◌, arith, append_assoc}
use Rattle.std.proofs.lemmas.Bool.{cond-true, cond-false, cases_Bool}
use Rattle.std.proofs.lemmas.List.{length-append}
use Rattle.lg_json.specs.Tree.{Tree, Entry, trees, entries}
use Rattle.lg_json.specs.Grammar.{IsBlank, IsString}
use Rattle.lg_json.specs.Reading.{Frame, Mode, at, has_name, and_then, reads, reading}
use Rattle.lg_json.specs.Reading.Frame.{in_list, in_object, named}
use Rattle.lg_json.specs.Reading.Mode.{before_value, before_first, before_first_name, before_name, before_colon, after_item}
use Rattle.lg_json.specs.Before.{BeforeItem, BeforeName, BeforeNamed, BeforeValue}
use Rattle.lg_json.specs.declared.json.JsonFault.{JsonFault}
use Rattle.lg_json.specs.declared.json.JsonFault.TheVariants.{TooDeep, Repeated}
use Rattle.lg_json.proofs.Meets.{Meets, IsOther, Outcome, Any}
use Rattle.lg_json.proofs.Reaches.{reads_one, past_blanks, value_passes, first_passes, first_name_passes, name_passes, colon_passes, begins_at}
use Rattle.lg_json.proofs.Names.{list_of, entries_of}
use Rattle.lg_json.proofs.Goes.{Ready, value_ready, first_ready, NameReady, first_name_ready, name_ready, comma, items_go, members_go, all_go, members_all_go, value_goes, quoted_reads, begin_list, begin_object, comma_item, comma_member, colon_step}

-- x goes on as y before each rest, or one fault comes before each
pub data Leads (x y : Outcome) : Type 0 where
  leads : ((rest : List ℕ) → x rest ≡ y rest) → Leads x y
  faults : (f : JsonFault) → IsOther f → ((rest : List ℕ) → x rest ≡ Err f) → Leads x y

pub leads_from : {x x' y y' : Outcome} → ((rest : List ℕ) → x' rest ≡ x rest) → ((rest : List ℕ) → y rest ≡ y' rest) → Leads x y → Leads x' y'
leads_from e f (leads g) = leads (λ rest. e rest ∙ g rest ∙ f rest)
leads_from e f (faults k other g) = faults k other (λ rest. e rest ∙ g rest)

pub leads_on : {x y z : Outcome} → Leads x y → Leads y z → Leads x z
leads_on (leads f) (leads g) = leads (λ rest. f rest ∙ g rest)
leads_on (leads f) (faults k other g) = faults k other (λ rest. f rest ∙ g rest)
leads_on (faults k other f) m = faults k other f

leads_before : {x y : Outcome} (a : List ℕ) → Leads x y → Leads (λ rest. x (a ++ rest)) (λ rest. y (a ++ rest))
leads_before a (leads f) = leads (λ rest. f (a ++ rest))
leads_before a (faults k other f) = faults k other (λ rest. f (a ++ rest))

without : {P : Type 0} {x y : Outcome} → Meets P Any x y → Leads x y
without (Meets.goes f) = leads (λ rest. f rest tt)
without (Meets.stops k other bars f) = faults k other (λ rest. f rest tt)

-- the mode before a value and before a name
abbrev pub opening : List Frame → Mode
opening (in_list [] ∷ fs) = before_first
opening _ = before_value

abbrev pub name_opening : List Entry → Mode
name_opening [] = before_first_name
name_opening (m ∷ ms) = before_name

pub opening_ready : (fs : List Frame) → Ready fs (opening fs)
opening_ready [] = value_ready []
opening_ready (in_list [] ∷ fs) = first_ready (in_list [] ∷ fs)
opening_ready (in_list (t ∷ ts) ∷ fs) = value_ready (in_list (t ∷ ts) ∷ fs)
opening_ready (in_object ms ∷ fs) = value_ready (in_object ms ∷ fs)
opening_ready (named ms name ∷ fs) = value_ready (named ms name ∷ fs)

pub name_opening_ready : (ms : List Entry) (fs : List Frame) → NameReady (in_object ms ∷ fs) (name_opening ms)
name_opening_ready [] fs = first_name_ready (in_object [] ∷ fs)
name_opening_ready (m ∷ ms) fs = name_ready (in_object (m ∷ ms) ∷ fs)

list_of-trees : (ts : List Tree) → list_of (trees ts) ≡ ts
list_of-trees [] = refl
list_of-trees (t ∷ ts) = ap (λ us. t ∷ us) (list_of-trees ts)

entries_of-entries : (ms : List Entry) → entries_of (entries ms) ≡ ms
entries_of-entries [] = refl
entries_of-entries (m ∷ ms) = ap (λ us. m ∷ us) (entries_of-entries ms)

abbrev pub Comes : List ℕ → List Frame → Mode → Type 0
Comes front fs m = Leads (λ rest. reading (front ++ rest)) (λ rest. reads (length front) (at fs m) rest)

-- a list or an object that begins
list_opens : (fs : List Frame) (outer : List ℕ) → Comes outer fs (opening fs) → Leads (λ rest. reading (outer ++ 91 ∷ rest)) (λ rest. reads (suc (length outer)) (at (in_list [] ∷ fs) before_first) rest)
list_opens fs outer c =
    leads_on (leads_before (91 ∷ []) c)
    (elim (cases_Bool (nat_lt (length fs) 64)) [
      | inl room ↦ leads (λ rest. (opening_ready fs).starts (length outer) 91 rest refl refl ∙ begins_at (length outer) fs 91 rest _ (begin_list (length outer) fs ∙ cond-true (nat_lt (length fs) 64) _ _ room))
      | inr full ↦ faults (TooDeep (length outer)) tt (λ rest. (opening_ready fs).starts (length outer) 91 rest refl refl ∙ ap (λ r. and_then r (λ next. reads (suc (length outer)) next rest)) (begin_list (length outer) fs ∙ cond-false (nat_lt (length fs) 64) _ _ full))
    ])

object_opens : (fs : List Frame) (outer : List ℕ) → Comes outer fs (opening fs) → Leads (λ rest. reading (outer ++ 123 ∷ rest)) (λ rest. reads (suc (length outer)) (at (in_object [] ∷ fs) before_first_name) rest)
object_opens fs outer c =
    leads_on (leads_before (123 ∷ []) c)
    (elim (cases_Bool (nat_lt (length fs) 64)) [
      | inl room ↦ leads (λ rest. (opening_ready fs).starts (length outer) 123 rest refl refl ∙ begins_at (length outer) fs 123 rest _ (begin_object (length outer) fs ∙ cond-true (nat_lt (length fs) 64) _ _ room))
      | inr full ↦ faults (TooDeep (length outer)) tt (λ rest. (opening_ready fs).starts (length outer) 123 rest refl refl ∙ ap (λ r. and_then r (λ next. reads (suc (length outer)) next rest)) (begin_object (length outer) fs ∙ cond-false (nat_lt (length fs) 64) _ _ full))
    ])

item_comes : (fs : List Frame) (ts : List Tree) (front : List ℕ) → ((outer : List ℕ) → BeforeValue fs outer → Comes outer fs (opening fs)) → BeforeItem (BeforeValue fs) ts front → Comes front (in_list ts ∷ fs) (opening (in_list ts ∷ fs))
item_comes fs [] front ih b =
    let total : length front ≡ length b.0 + suc (length b.1) = ap length b.4 ∙ length-append b.0 (91 ∷ b.1) in
    leads_from
    (λ rest. ap (λ (l : List ℕ). reading (l ++ rest)) b.4 ∙ ap reading (append_assoc b.0 (91 ∷ b.1) rest))
    (λ rest. past_blanks (in_list [] ∷ fs) before_first b.1 rest (suc (length b.0)) (length front) (first_passes _) b.3 (omega arith))
    (leads_before b.1 (list_opens fs b.0 (ih b.0 b.2)))
item_comes fs (t ∷ ts) front ih b =
    let total : length front ≡ length b.0 + suc (length (b.1 ++ 44 ∷ b.2)) = ap length b.6 ∙ length-append b.0 (91 ∷ (b.1 ++ 44 ∷ b.2)) in
    let total2 : length (b.1 ++ 44 ∷ b.2) ≡ length b.1 + suc (length b.2) = length-append b.1 (44 ∷ b.2) in
    let i1 = suc (length b.0) in
    let j1 = i1 + length b.1 in
    leads_from
    (λ rest. ap (λ (l : List ℕ). reading (l ++ rest)) b.6 ∙ ap reading (regroup rest))
    (λ rest. ap (λ us. reads j1 (at (in_list us ∷ fs) after_item) (44 ∷ (b.2 ++ rest))) (list_of-trees (t ∷ ts))
    ∙ reads_one j1 (in_list (t ∷ ts) ∷ fs) after_item 44 (b.2 ++ rest) (at (in_list (t ∷ ts) ∷ fs) before_value) (comma_item j1 (t ∷ ts) fs)
    ∙ past_blanks (in_list (t ∷ ts) ∷ fs) before_value b.2 rest (suc j1) (length front) (value_passes _) b.5 (omega arith))
    (leads_on
    (leads_before (b.1 ++ 44 ∷ b.2) (list_opens fs b.0 (ih b.0 b.3)))
    (leads_from (λ rest. ap (λ (l : List ℕ). reads i1 (at (in_list [] ∷ fs) before_first) l) (append_assoc b.1 (44 ∷ b.2) rest)) (λ rest. refl)
    (leads_before b.2 (without (items_go t (trees ts) (value_goes t) (all_go (trees ts)) [] i1 j1 fs before_first b.1 44 comma (first_ready (in_list [] ∷ fs)) b.4 refl)))))
  where
    regroup : (rest : List ℕ) → (b.0 ++ 91 ∷ (b.1 ++ 44 ∷ b.2)) ++ rest ≡ b.0 ++ 91 ∷ ((b.1 ++ 44 ∷ b.2) ++ rest)
    regroup rest = append_assoc b.0 (91 ∷ (b.1 ++ 44 ∷ b.2)) rest

name_comes : (fs : List Frame) (ms : List Entry) (front : List ℕ) → ((outer : List ℕ) → BeforeValue fs outer → Comes outer fs (opening fs)) → BeforeName (BeforeValue fs) ms front → Comes front (in_object ms ∷ fs) (name_opening ms)
name_comes fs [] front ih b =
    let total : length front ≡ length b.0 + suc (length b.1) = ap length b.4 ∙ length-append b.0 (123 ∷ b.1) in
    leads_from
    (λ rest. ap (λ (l : List ℕ). reading (l ++ rest)) b.4 ∙ ap reading (append_assoc b.0 (123 ∷ b.1) rest))
    (λ rest. past_blanks (in_object [] ∷ fs) before_first_name b.1 rest (suc (length b.0)) (length front) (first_name_passes _) b.3 (omega arith))
    (leads_before b.1 (object_opens fs b.0 (ih b.0 b.2)))
name_comes fs (m ∷ ms) front ih b =
    let total : length front ≡ length b.0 + suc (length (b.1 ++ 44 ∷ b.2)) = ap length b.6 ∙ length-append b.0 (123 ∷ (b.1 ++ 44 ∷ b.2)) in
    let total2 : length (b.1 ++ 44 ∷ b.2) ≡ length b.1 + suc (length b.2) = length-append b.1 (44 ∷ b.2) in
    let i1 = suc (length b.0) in
    let j1 = i1 + length b.1 in
    leads_from
    (λ rest. ap (λ (l : List ℕ). reading (l ++ rest)) b.6 ∙ ap reading (append_assoc b.0 (123 ∷ (b.1 ++ 44 ∷ b.2)) rest))
    (λ rest. ap (λ us. reads j1 (at (in_object us ∷ fs) after_item) (44 ∷ (b.2 ++ rest))) (entries_of-entries (m ∷ ms))
    ∙ reads_one j1 (in_object (m ∷ ms) ∷ fs) after_item 44 (b.2 ++ rest) (at (in_object (m ∷ ms) ∷ fs) before_name) (comma_member j1 (m ∷ ms) fs)
    ∙ past_blanks (in_object (m ∷ ms) ∷ fs) before_name b.2 rest (suc j1) (length front) (name_passes _) b.5 (omega arith))
    (leads_on
    (leads_before (b.1 ++ 44 ∷ b.2) (object_opens fs b.0 (ih b.0 b.3)))
    (leads_from (λ rest. ap (λ (l : List ℕ). reads i1 (at (in_object [] ∷ fs) before_first_name) l) (append_assoc b.1 (44 ∷ b.2) rest)) (λ rest. refl)
    (leads_before b.2 (without (members_go m.0 m.1 (entries ms) (value_goes m.1) (members_all_go (entries ms)) [] i1 j1 fs before_first_name b.1 44 comma (first_name_ready (in_object [] ∷ fs)) b.4 refl)))))

-- a name up to its closing quote
name_ends : (fs : List Frame) (ms : List Entry) (name quoted : List ℕ) → IsString name quoted → (i k : ℕ) → suc k ≡ i + length quoted → Leads (λ rest. reads i (at (in_object ms ∷ fs) (name_opening ms)) (quoted ++ rest)) (λ rest. reads (suc k) (at (named ms name ∷ fs) before_colon) rest)
name_ends fs ms name quoted s i k place = elim (cases_Bool (has_name name ms)) [
  | inl twice ↦ faults (Repeated i) tt (λ rest. quoted_reads name quoted s i k ms fs (name_opening ms) rest (name_opening_ready ms fs) place ∙ ap (λ r. and_then r (λ next. reads (suc k) next rest)) (cond-true (has_name name ms) (Err (Repeated i)) (Ok (at (named ms name ∷ fs) before_colon)) twice))
  | inr new ↦ leads (λ rest. quoted_reads name quoted s i k ms fs (name_opening ms) rest (name_opening_ready ms fs) place ∙ ap (λ r. and_then r (λ next. reads (suc k) next rest)) (cond-false (has_name name ms) (Err (Repeated i)) (Ok (at (named ms name ∷ fs) before_colon)) new))
]

named_comes : (fs : List Frame) (ms : List Entry) (name front : List ℕ) → ((outer : List ℕ) → BeforeValue fs outer → Comes outer fs (opening fs)) → BeforeNamed (BeforeValue fs) ms name front → Comes front (named ms name ∷ fs) before_value
named_comes fs ms name front ih b =
    let before = b.0 in
    let quoted = b.1 in
    let gap = b.2 in
    let blank = b.3 in
    let i1 = length before in
    let some : length quoted ≡ suc (length (b.5.inner ++ 34 ∷ [])) = ap length b.5.parts in
    let k = i1 + length (b.5.inner ++ 34 ∷ []) in
    let total : length front ≡ length before + (length quoted + (length gap + suc (length blank))) = ap length b.8 ∙ length-append before (quoted ++ (gap ++ 58 ∷ blank)) ∙ ap (λ n. length before + n) (length-append quoted (gap ++ 58 ∷ blank) ∙ ap (λ n. length quoted + n) (length-append gap (58 ∷ blank))) in
    leads_from
    (λ rest. ap (λ (l : List ℕ). reading (l ++ rest)) b.8 ∙ ap reading (regroup rest))
    (λ rest. ap (λ (l : List ℕ). reads (suc k) (at (named ms name ∷ fs) before_colon) l) (append_assoc gap (58 ∷ blank) rest)
    ∙ past_blanks (named ms name ∷ fs) before_colon gap (58 ∷ (blank ++ rest)) (suc k) (suc k + length gap) (colon_passes _) b.6 refl
    ∙ reads_one (suc k + length gap) (named ms name ∷ fs) before_colon 58 (blank ++ rest) (at (named ms name ∷ fs) before_value) (colon_step _ _)
    ∙ past_blanks (named ms name ∷ fs) before_value blank rest (suc (suc k + length gap)) (length front) (value_passes _) b.7 (omega arith))
    (leads_on
    (leads_before (quoted ++ (gap ++ 58 ∷ blank)) (name_comes fs ms before ih b.4))
    (leads_from (λ rest. ap (λ (l : List ℕ). reads i1 (at (in_object ms ∷ fs) (name_opening ms)) l) (append_assoc quoted (gap ++ 58 ∷ blank) rest)) (λ rest. refl)
    (leads_before (gap ++ 58 ∷ blank) (name_ends fs ms name quoted b.5 i1 k (omega arith)))))
  where
    regroup : (rest : List ℕ) → (b.0 ++ (b.1 ++ (b.2 ++ 58 ∷ b.3))) ++ rest ≡ b.0 ++ ((b.1 ++ (b.2 ++ 58 ∷ b.3)) ++ rest)
    regroup rest = append_assoc b.0 (b.1 ++ (b.2 ++ 58 ∷ b.3)) rest

blank_comes : (front : List ℕ) → IsBlank front → Comes front [] before_value
unfolding reading
blank_comes front h = leads (λ rest. past_blanks [] before_value front rest 0 (length front) (value_passes []) h (omega arith))

pub value_comes : (fs : List Frame) (front : List ℕ) → BeforeValue fs front → Comes front fs (opening fs)
value_comes [] front b = blank_comes front b
value_comes (in_list ts ∷ fs) front b = item_comes fs ts front (value_comes fs) b
value_comes (in_object ms ∷ fs) front b = absurd b
value_comes (named ms name ∷ fs) front b = named_comes fs ms name front (value_comes fs) b

pub next_name_comes : (fs : List Frame) (ms : List Entry) (front : List ℕ) → BeforeName (BeforeValue fs) ms front → Comes front (in_object ms ∷ fs) (name_opening ms)
next_name_comes fs ms front b = name_comes fs ms front (value_comes fs) b
