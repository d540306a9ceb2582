-- The line of an entry has no newline.
use Rattle.std.proofs.Common.{ℕ, List, [], ◌∷◌, Option, Some, None, refl, sym, subst, arith}
use Rattle.std.specs.Prelude.{ℤ, codes, decimal}
use Rattle.lg_base.specs.Texts.{quoted}
use Rattle.lg_containers.specs.CanonicalTexts.{list_text}
use Rattle.lg_containers.specs.NameTable.{NameTable, pairs_of}
use Rattle.lg_time.specs.Moment.{IsInMoments}
use Rattle.lg_types.specs.EntryTexts.{posting_text, meta_text, account_meta_text, reference_text, transaction_text, target_text, body_text, mark_text}
use Rattle.lg_types.specs.PartTexts.{hash_text, date_text, optional_text}
use Rattle.lg_types.specs.declared.records.Entry.{Entry}
use Rattle.lg_types.specs.declared.records.EntryBody.{EntryBody}
use Rattle.lg_types.specs.declared.records.EntryBody.TheVariants.{NewTransaction, SetMetadata, Reverted, DeleteMetadata}
use Rattle.lg_types.specs.declared.records.KeyMark.{KeyMark}
use Rattle.lg_types.specs.declared.records.Posting.{Posting}
use Rattle.lg_types.specs.declared.records.Target.{Target}
use Rattle.lg_types.specs.declared.records.Target.TheVariants.{Account, Transaction as TransactionOf}
use Rattle.lg_types.specs.declared.records.Transaction.{Transaction}
use Rattle.lg_views.specs.ReplyTexts.{line_text}
use Rattle.lg_types.specs.Records.{IsId, IsHash, IsPosting, IsTextPair, IsMeta, IsAccountPair, IsAccountMeta, IsTransaction, IsTarget, IsBody, IsMarkOf, IsEntry}
use Rattle.lg_entry_lines.proofs.Breaks.{IsUnbroken, unbroken_nil, no_piece, a_piece, unbroken_pieces, unbroken_literal, unbroken_quoted, unbroken_string, unbroken_decimal, unbroken_list, unbroken_members}
use Rattle.lg_entry_lines.proofs.Hashes.{hash_plain}
use Rattle.lg_entry_lines.proofs.Moments.{moment_plain, date_is}

date : (moment : ℤ) → IsInMoments moment → IsUnbroken (date_text moment)
date moment h = subst IsUnbroken (sym (date_is moment h)) (unbroken_string _ (moment_plain moment h))

hash : (bytes : List ℕ) → IsHash bytes → IsUnbroken (hash_text bytes)
unfolding hash_text
hash bytes h = unbroken_string _ (hash_plain bytes h.bytes)

id : (n : ℕ) → IsId n → IsUnbroken (decimal n)
id n h = unbroken_decimal n (omega arith)

posting : (p : Posting) → IsPosting p → IsUnbroken (posting_text p)
posting p h =
    unbroken_pieces (codes "{\"source\":" ∷ quoted p.source ∷ codes ",\"destination\":" ∷ quoted p.destination ∷ codes ",\"amount\":" ∷ decimal p.amount ∷ codes ",\"asset\":" ∷ quoted p.asset ∷ codes "}" ∷ [])
    (a_piece (unbroken_literal refl) (a_piece (unbroken_quoted p.source) (a_piece (unbroken_literal refl) (a_piece (unbroken_quoted p.destination) (a_piece (unbroken_literal refl) (a_piece (unbroken_decimal p.amount h.amount)
    (a_piece (unbroken_literal refl) (a_piece (unbroken_quoted p.asset) (a_piece (unbroken_literal refl) no_piece)))))))))

text_pair : (p : List ℕ × List ℕ) → IsTextPair p → IsUnbroken (quoted p.1)
text_pair p h = unbroken_quoted p.1

meta : (m : NameTable (List ℕ)) → IsMeta m → IsUnbroken (meta_text m)
meta m h = unbroken_members quoted IsTextPair text_pair (pairs_of m) h

account_pair : (p : List ℕ × NameTable (List ℕ)) → IsAccountPair p → IsUnbroken (meta_text p.1)
account_pair p h = meta p.1 h.value

account_meta : (m : NameTable (NameTable (List ℕ))) → IsAccountMeta m → IsUnbroken (account_meta_text m)
account_meta m h = unbroken_members meta_text IsAccountPair account_pair (pairs_of m) h

reference : (r : Option (List ℕ)) → IsUnbroken (optional_text reference_text r)
reference None = unbroken_nil
reference (Some r) = unbroken_pieces (codes ",\"reference\":" ∷ quoted r ∷ []) (a_piece (unbroken_literal refl) (a_piece (unbroken_quoted r) no_piece))

transaction : (t : Transaction) → IsTransaction t → IsUnbroken (transaction_text t)
transaction t h =
    unbroken_pieces (codes "{\"id\":" ∷ decimal t.id ∷ codes ",\"postings\":" ∷ list_text posting_text t.postings ∷ codes ",\"metadata\":" ∷ meta_text t.metadata ∷ optional_text reference_text t.reference ∷ codes ",\"timestamp\":" ∷ date_text t.timestamp ∷ codes "}" ∷ [])
    (a_piece (unbroken_literal refl) (a_piece (id t.id h.id) (a_piece (unbroken_literal refl) (a_piece (unbroken_list posting_text IsPosting posting t.postings h.postings) (a_piece (unbroken_literal refl) (a_piece (meta t.metadata h.metadata)
    (a_piece (reference t.reference) (a_piece (unbroken_literal refl) (a_piece (date t.timestamp h.timestamp) (a_piece (unbroken_literal refl) no_piece))))))))))

target : (t : Target) → IsTarget t → IsUnbroken (target_text t)
target (Account address) h = unbroken_pieces (codes "\"targetType\":\"ACCOUNT\",\"targetId\":" ∷ quoted address ∷ []) (a_piece (unbroken_literal refl) (a_piece (unbroken_quoted address) no_piece))
target (TransactionOf n) h = unbroken_pieces (codes "\"targetType\":\"TRANSACTION\",\"targetId\":" ∷ decimal n ∷ []) (a_piece (unbroken_literal refl) (a_piece (id n h) no_piece))

body : (b : EntryBody) → IsBody b → IsUnbroken (body_text b)
body (NewTransaction t accounts) h =
    unbroken_pieces (codes "\"type\":\"NEW_TRANSACTION\",\"data\":{\"transaction\":" ∷ transaction_text t ∷ codes ",\"accountMetadata\":" ∷ account_meta_text accounts ∷ codes "}" ∷ [])
    (a_piece (unbroken_literal refl) (a_piece (transaction t h.0) (a_piece (unbroken_literal refl) (a_piece (account_meta accounts h.1) (a_piece (unbroken_literal refl) no_piece)))))
body (SetMetadata t m) h =
    unbroken_pieces (codes "\"type\":\"SET_METADATA\",\"data\":{" ∷ target_text t ∷ codes ",\"metadata\":" ∷ meta_text m ∷ codes "}" ∷ [])
    (a_piece (unbroken_literal refl) (a_piece (target t h.0) (a_piece (unbroken_literal refl) (a_piece (meta m h.1) (a_piece (unbroken_literal refl) no_piece)))))
body (Reverted n t) h =
    unbroken_pieces (codes "\"type\":\"REVERTED_TRANSACTION\",\"data\":{\"revertedTransactionID\":" ∷ decimal n ∷ codes ",\"transaction\":" ∷ transaction_text t ∷ codes "}" ∷ [])
    (a_piece (unbroken_literal refl) (a_piece (id n h.0) (a_piece (unbroken_literal refl) (a_piece (transaction t h.1) (a_piece (unbroken_literal refl) no_piece)))))
body (DeleteMetadata t name) h =
    unbroken_pieces (codes "\"type\":\"DELETE_METADATA\",\"data\":{" ∷ target_text t ∷ codes ",\"key\":" ∷ quoted name ∷ codes "}" ∷ [])
    (a_piece (unbroken_literal refl) (a_piece (target t h.0) (a_piece (unbroken_literal refl) (a_piece (unbroken_quoted name) (a_piece (unbroken_literal refl) no_piece)))))

mark : (m : Option KeyMark) → IsMarkOf m → IsUnbroken (optional_text mark_text m)
mark None h = unbroken_nil
mark (Some m) h =
    unbroken_pieces (codes ",\"idempotencyKey\":" ∷ quoted m.key ∷ codes ",\"idempotencyHash\":" ∷ hash_text m.input_hash ∷ [])
    (a_piece (unbroken_literal refl) (a_piece (unbroken_quoted m.key) (a_piece (unbroken_literal refl) (a_piece (hash m.input_hash h.input_hash) no_piece))))

pub line_unbroken : (e : Entry) → IsEntry e → IsUnbroken (line_text e)
line_unbroken e h =
    unbroken_pieces (codes "{" ∷ body_text e.body ∷ codes ",\"date\":" ∷ date_text e.date ∷ optional_text mark_text e.mark ∷ codes ",\"form\":2,\"id\":" ∷ decimal e.id ∷ codes ",\"hash\":" ∷ hash_text e.hash ∷ codes "}" ∷ [])
    (a_piece (unbroken_literal refl) (a_piece (body e.body h.body) (a_piece (unbroken_literal refl) (a_piece (date e.date h.date) (a_piece (mark e.mark h.mark) (a_piece (unbroken_literal refl) (a_piece (id e.id h.id)
    (a_piece (unbroken_literal refl) (a_piece (hash e.hash h.hash) (a_piece (unbroken_literal refl) no_piece))))))))))
