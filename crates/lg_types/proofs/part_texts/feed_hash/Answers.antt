use Rattle.std.proofs.Common.{◌≡◌, ℕ, ◌≤◌, List, [], ◌∷◌, ◌++◌, length, replicate, ◌∙◌, ap, lit≤}
use Rattle.std.proofs.lemmas.List.{append-nil, drop_all}
use Rattle.base64.specs.GeneralPurpose.{encode_of, encoded_size_of}
use Rattle.base64.specs.Engines.{standard}
use Rattle.lg_base.proofs.Feeds.{same_text}
use Rattle.lg_types.specs.PartTexts.{hash_text}
use Rattle.lg_types.proofs.part_texts.feed_hash.Goals as goal

pub returns : goal.returns
unfolding hash_text
returns g c =
    let encoded : List ℕ = encode_of standard c.args.hash.now in
    let len : length c.args.hash.now ≡ 32 = c.told-hash in
    let size : 44 ≤ encoded_size_of standard (length c.args.hash.now) = rw len (lit≤ tt) in
    let e : c.encode_slice.new.output ≡ encoded =
    c.in-Ok.ensures.written ∙ ap (λ (l : List ℕ). encoded ++ l) (drop_all (encoded_size_of standard (length c.args.hash.now)) (replicate 44 0) size) ∙ append-nil encoded in
    same_text (ap (λ (t : List ℕ). 34 ∷ (t ++ 34 ∷ [])) e) c.feed_between_quotes.ensures
