-- The texts of metadata, and what they are read as.
use Rattle.std.proofs.Common.{◌≡◌, ℕ, ◌-◌, ◌<◌, List, [], ◌∷◌, Some, refl, ap, subst, ◌∙◌, arith}
use Rattle.std.specs.Prelude.{Ok}
use Rattle.std.specs.List.{AllByRecursion}
use Rattle.lg_base.specs.Texts.{quoted}
use Rattle.lg_containers.specs.AddressGrammar.{IsAddress}
use Rattle.lg_containers.specs.NameTable.{NameTable, pairs_of, empty, insert, pairs_in_order}
use Rattle.lg_json.specs.Grammar.{IsValue, Fits}
use Rattle.lg_json.specs.Tree.{Tree}
use Rattle.lg_json.specs.Tree.Tree.{text, members}
use Rattle.lg_types.specs.EntryTexts.{meta_text, account_meta_text}
use Rattle.lg_readings.specs.Paths.{Path, below}
use Rattle.lg_readings.specs.Bodies.{with_texts, texts_of, AccountIn, WithAccounts, Accounts}
use Rattle.lg_entry_lines.specs.Laws.{GivesOnly}
use Rattle.lg_types.specs.Records.{IsTextPair, IsMeta, IsAccountPair, IsAccountMeta}
use Rattle.lg_entry_lines.proofs.Names.{address_utf8}
use Rattle.lg_entry_lines.proofs.Objects.{members_of_pairs, IsSpelled, object_is, pairs_fit}
use Rattle.lg_entry_lines.proofs.Readings.{only_known, only_gives, only_form, only_then}
use Rattle.lg_entry_lines.proofs.Strings.{text_is_string}
use Rattle.lg_entry_lines.proofs.Tables.{inserts, inserts_pairs}

-- ---- texts

abbrev text_tree : List ℕ → Tree
text_tree t = text t

abbrev pub meta_tree : NameTable (List ℕ) → Tree
meta_tree m = members (members_of_pairs text_tree (pairs_of m))

spelled : (p : List ℕ × List ℕ) → IsTextPair p → IsSpelled text_tree quoted p
spelled p h = record { name = h.name; value = text_is_string p.1 h.value }

pub meta_is_object : (m : NameTable (List ℕ)) → IsMeta m → IsValue (meta_tree m) (meta_text m)
meta_is_object m h = object_is text_tree IsTextPair quoted spelled (pairs_of m) h

pub meta_fits : (room : ℕ) (m : NameTable (List ℕ)) → 0 < room → IsMeta m → Fits room (meta_tree m)
meta_fits room m some h = (some, pairs_fit text_tree IsTextPair (room - 1) (λ p q. tt) (pairs_of m) (pairs_in_order m) h)

with_pairs : (path : Path) (t : NameTable (List ℕ)) (ps : List (List ℕ × List ℕ)) → with_texts path t (members_of_pairs text_tree ps) ≡ Ok (inserts t ps)
with_pairs path t [] = refl
with_pairs path t (p ∷ ps) = with_pairs path (insert t p.0 p.1) ps

pub meta_reads : (path : Path) (m : NameTable (List ℕ)) → texts_of path (Some (meta_tree m)) ≡ Ok m
meta_reads path m = with_pairs path empty (pairs_of m) ∙ ap Ok (inserts_pairs m)

-- ---- metadata of accounts

abbrev pub account_meta_tree : NameTable (NameTable (List ℕ)) → Tree
account_meta_tree m = members (members_of_pairs meta_tree (pairs_of m))

account_spelled : (p : List ℕ × NameTable (List ℕ)) → IsAccountPair p → IsSpelled meta_tree meta_text p
account_spelled p h = record { name = address_utf8 p.0 h.name; value = meta_is_object p.1 h.value }

pub account_meta_is_object : (m : NameTable (NameTable (List ℕ))) → IsAccountMeta m → IsValue (account_meta_tree m) (account_meta_text m)
account_meta_is_object m h = object_is meta_tree IsAccountPair meta_text account_spelled (pairs_of m) h

pub account_meta_fits : (room : ℕ) (m : NameTable (NameTable (List ℕ))) → 1 < room → IsAccountMeta m → Fits room (account_meta_tree m)
account_meta_fits room m some h = (omega arith, pairs_fit meta_tree IsAccountPair (room - 1) (λ p q. meta_fits (room - 1) p.1 (omega arith) q.value) (pairs_of m) (pairs_in_order m) h)

account_reads : (path : Path) (p : List ℕ × NameTable (List ℕ)) → IsAccountPair p → GivesOnly (AccountIn path p.0 (meta_tree p.1)) (p.0, p.1)
account_reads path p h = only_then (only_form (IsAddress p.0) (below path p.0) p.0 h.name) (only_then (only_known (meta_reads (below path p.0) p.1)) (only_gives (p.0, p.1)))

with_account_pairs : (path : Path) (t : NameTable (NameTable (List ℕ))) (ps : List (List ℕ × NameTable (List ℕ))) → AllByRecursion IsAccountPair ps → GivesOnly (WithAccounts path t (members_of_pairs meta_tree ps)) (inserts t ps)
with_account_pairs path t [] h = only_gives t
with_account_pairs path t (p ∷ ps) h = only_then (account_reads path p h.0) (with_account_pairs path (insert t p.0 p.1) ps h.1)

pub accounts_read : (path : Path) (m : NameTable (NameTable (List ℕ))) → IsAccountMeta m → GivesOnly (Accounts path (Some (account_meta_tree m))) m
accounts_read path m h =
    only_then (only_known refl) (subst (GivesOnly (WithAccounts path empty (members_of_pairs meta_tree (pairs_of m)))) (inserts_pairs m) (with_account_pairs path empty (pairs_of m) h))
