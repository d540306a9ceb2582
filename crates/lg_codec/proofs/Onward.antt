-- The loops that read item after item.
use Rattle.std.proofs.Common.{◌≡◌, ℕ, ◌+◌, ◌<◌, ◌≤◌, List, [], ◌∷◌, ◌++◌, drop, length, get_or, map, drop_of_length-le, refl, sym, ap, subst, ◌∙◌, arith, rules}
use Rattle.std.specs.Prelude.{Result, Ok, Err}
use Rattle.std.proofs.lemmas.List.{drop_more}
use Rattle.lg_containers.specs.NameTable as table
use Rattle.lg_json.specs.declared.json.Json.{Json}
use Rattle.lg_json.specs.declared.json.Member.{Member}
use Rattle.lg_json.specs.declared.json.Json.TheFolds.{fold_out-Member}
use Rattle.lg_json.specs.Tree.{Tree, Trees, Members, Entry, level, entry_level, tree, entry, entries, trees}
use Rattle.lg_types.specs.declared.records.Posting.{Posting}
use Rattle.lg_types.specs.declared.refusals.Refusal.{Refusal}
use Rattle.lg_readings.specs.Answers.{Answer, Then}
use Rattle.lg_codec.specs.Results.{Reads}
use Rattle.lg_codec.proofs.Readings.{err_is}
use Rattle.std.specs.Result.{IsErrAnd}
use Rattle.lg_readings.specs.Bodies.{AccountMetaOf, AccountIn, WithAccounts, PostingOf, WithPostings}
use Rattle.lg_readings.specs.Paths.{Path, item_below}
use Rattle.lg_codec.specs.Seen.{members_seen, items_seen}
use Rattle.lg_codec.specs.declared.stop.CodecStop.{CodecStop}
use Rattle.lg_codec.specs.declared.stop.CodecStop.TheVariants.{Refused, NoMemory}
use Rattle.std.specs.Prelude.{codes}
use Rattle.lg_types.specs.Changes.{MetaOf}

-- the member at a place, and those after it
pub entry_is : (x : Member) → entry x ≡ (x.name, tree x.value)
entry_is x = fold_out-Member Tree Entry level entry_level x

pub members_at : (all : List Member) (i : ℕ) (x : Member) → i < length all → x ≡ get_or all i x
    → members_seen (drop i all) ≡ Members.member x.name (tree x.value) (members_seen (drop (i + 1) all))
members_at all i x h is =
    ap members_seen (drop_more all i x h) ∙ ap (λ (y : Member). entries (entry y ∷ map entry (drop (i + 1) all))) (sym is) ∙ ap (λ (e : Entry). entries (e ∷ map entry (drop (i + 1) all))) (entry_is x)

pub items_at : (all : List Json) (i : ℕ) (x : Json) → i < length all → x ≡ get_or all i x
    → items_seen (drop i all) ≡ Trees.item (tree x) (items_seen (drop (i + 1) all))
items_at all i x h is = ap items_seen (drop_more all i x h) ∙ ap (λ (y : Json). Trees.item (tree y) (items_seen (drop (i + 1) all))) (sym is)

-- whatever the members that are left are read as, with the accounts so far, all the members are
pub record AccountsGoOn (path : Path) (accounts : AccountMetaOf) (left all : List Member) : Type 0 where
  pub on : (r : Answer AccountMetaOf) → WithAccounts path accounts (members_seen left) r → WithAccounts path table.empty (members_seen all) r

module _ (path : Path) (accounts : AccountMetaOf) (all : List Member) (i : ℕ) where
  pub accounts_more : (x : Member) (address : List ℕ) (meta : MetaOf) → AccountsGoOn path accounts (drop i all) all → i < length all → x ≡ get_or all i x
      → AccountIn path x.name (tree x.value) (Ok (address, meta)) → AccountsGoOn path (table.insert accounts address meta) (drop (i + 1) all) all
  accounts_more x address meta g h is first = record {
    on = λ r rest. g.on r (subst (λ (ms : Members). WithAccounts path accounts ms r) (sym (members_at all i x h is))
        (record { answer = Ok (address, meta); is_first = first; goes_on = rest }));
  }

  pub accounts_stop : (x : Member) (e : CodecStop) (r : Result AccountMetaOf CodecStop) → AccountsGoOn path accounts (drop i all) all → i < length all → x ≡ get_or all i x
      → IsErrAnd r (λ x. x ≡ e) → Reads (AccountIn path x.name (tree x.value)) (Err e) → Reads (WithAccounts path table.empty (members_seen all)) r
  accounts_stop x e r g h is failed first =
      subst (λ (q : Result AccountMetaOf CodecStop). Reads (WithAccounts path table.empty (members_seen all)) q) (sym (err_is r failed)) (stopped e first)
    where
      stopped : (y : CodecStop) → Reads (AccountIn path x.name (tree x.value)) (Err y) → Reads (WithAccounts path table.empty (members_seen all)) (Err y)
      stopped (Refused refusal) p = record { answers = g.on (Err refusal) (subst (λ (ms : Members). WithAccounts path accounts ms (Err refusal)) (sym (members_at all i x h is)) (record { answer = Err refusal; is_first = p.answers; goes_on = refl })) }
      stopped NoMemory p = record { answers = tt }

  pub accounts_end : AccountsGoOn path accounts (drop i all) all → length all ≤ i → WithAccounts path table.empty (members_seen all) (Ok accounts)
  accounts_end g h = g.on (Ok accounts) (subst (λ (l : List Member). WithAccounts path accounts (members_seen l) (Ok accounts)) (sym (drop_of_length-le all h)) refl)

-- whatever the items that are left are read as, with the postings so far, all the items are
pub record PostingsGoOn (path : Path) (postings : List Posting) (left all : List Json) : Type 0 where
  pub on : (r : Answer (List Posting)) → WithPostings path postings (items_seen left) r → WithPostings path [] (items_seen all) r

module _ (path : Path) (postings : List Posting) (all : List Json) (i : ℕ) where
  pub postings_more : (x : Json) (p : Posting) → PostingsGoOn path postings (drop i all) all → i < length all → x ≡ get_or all i x
      → PostingOf (item_below path (codes "postings") (length postings)) (tree x) (Ok p) → PostingsGoOn path (postings ++ p ∷ []) (drop (i + 1) all) all
  postings_more x p g h is first = record {
    on = λ r rest. g.on r (subst (λ (ts : Trees). WithPostings path postings ts r) (sym (items_at all i x h is))
        (record { answer = Ok p; is_first = first; goes_on = rest }));
  }

  pub postings_stop : (x : Json) (e : CodecStop) (r : Result (List Posting) CodecStop) → PostingsGoOn path postings (drop i all) all → i < length all → x ≡ get_or all i x
      → IsErrAnd r (λ x. x ≡ e) → Reads (PostingOf (item_below path (codes "postings") (length postings)) (tree x)) (Err e) → Reads (WithPostings path [] (items_seen all)) r
  postings_stop x e r g h is failed first =
      subst (λ (q : Result (List Posting) CodecStop). Reads (WithPostings path [] (items_seen all)) q) (sym (err_is r failed)) (stopped e first)
    where
      stopped : (y : CodecStop) → Reads (PostingOf (item_below path (codes "postings") (length postings)) (tree x)) (Err y) → Reads (WithPostings path [] (items_seen all)) (Err y)
      stopped (Refused refusal) p = record { answers = g.on (Err refusal) (subst (λ (ts : Trees). WithPostings path postings ts (Err refusal)) (sym (items_at all i x h is)) (record { answer = Err refusal; is_first = p.answers; goes_on = refl })) }
      stopped NoMemory p = record { answers = tt }

  pub postings_end : PostingsGoOn path postings (drop i all) all → length all ≤ i → WithPostings path [] (items_seen all) (Ok postings)
  postings_end g h = g.on (Ok postings) (subst (λ (l : List Json). WithPostings path postings (items_seen l) (Ok postings)) (sym (drop_of_length-le all h)) refl)
