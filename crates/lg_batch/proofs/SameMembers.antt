-- Members that have the same values under the names that a line is read by.
use Rattle.std.proofs.Common.{◌≡◌, ℕ, false, List, Option, refl, ap, subst}
use Rattle.std.specs.Prelude.{codes, Result}
use Rattle.std.specs.Str.{bytes_eq}
use Rattle.lg_codec.specs.declared.stop.CodecStop.{CodecStop}
use Rattle.lg_json.specs.Tree.{Tree, Members}
use Rattle.lg_readings.specs.Answers.{Answer, known, ◌>>=◌}
use Rattle.lg_readings.specs.Script.{LineContent, NowIn, text_member, number_member, key_member}
use Rattle.lg_readings.specs.Values.{value_of, present_in, under}
use Rattle.lg_batch.specs.Lines.{CallIn, ContentIn, ContentWith}
use Rattle.lg_batch.specs.Reads.{ReadsAs, content_seen}
use Rattle.lg_batch.specs.declared.content.LineContent.{LineContent as Content}

-- what a line says by the values under its names
abbrev ContentOf : ℕ → (now caller phase method target key body : Option Tree) → Answer LineContent → Type 0
ContentOf lowest now caller phase method target key body =
    known (text_member (codes "now") now) >>= (λ now.
    NowIn now >>= (λ moment.
    known (number_member (codes "caller") 0 63 caller) >>= (λ caller.
    known (number_member (codes "phase") lowest 999999 phase) >>= (λ phase.
    known (text_member (codes "method") method) >>= (λ method.
    known (text_member (codes "path") target) >>= (λ target.
    known (key_member key) >>= (λ key.
    CallIn moment caller phase method target key body)))))))

module _ (lowest : ℕ) (old new : Members) (body : Option Tree) (is : body ≡ under (codes "body") old)
    (others : (name : List ℕ) → bytes_eq (codes "body") name ≡ false → value_of name new ≡ value_of name old) where
  same : (name : List ℕ) → bytes_eq (codes "body") name ≡ false → under name new ≡ under name old
  same name h = ap present_in (others name h)

  pub same_content : (r : Result Content CodecStop) → ReadsAs content_seen (ContentWith lowest new body) r → ReadsAs content_seen (ContentIn lowest old) r
  same_content r p =
      subst (λ (o : Option Tree). ReadsAs content_seen (ContentOf lowest o (under (codes "caller") old) (under (codes "phase") old) (under (codes "method") old) (under (codes "path") old) (under (codes "key") old) (under (codes "body") old)) r) (same (codes "now") refl)
      (subst (λ (o : Option Tree). ReadsAs content_seen (ContentOf lowest (under (codes "now") new) o (under (codes "phase") old) (under (codes "method") old) (under (codes "path") old) (under (codes "key") old) (under (codes "body") old)) r) (same (codes "caller") refl)
      (subst (λ (o : Option Tree). ReadsAs content_seen (ContentOf lowest (under (codes "now") new) (under (codes "caller") new) o (under (codes "method") old) (under (codes "path") old) (under (codes "key") old) (under (codes "body") old)) r) (same (codes "phase") refl)
      (subst (λ (o : Option Tree). ReadsAs content_seen (ContentOf lowest (under (codes "now") new) (under (codes "caller") new) (under (codes "phase") new) o (under (codes "path") old) (under (codes "key") old) (under (codes "body") old)) r) (same (codes "method") refl)
      (subst (λ (o : Option Tree). ReadsAs content_seen (ContentOf lowest (under (codes "now") new) (under (codes "caller") new) (under (codes "phase") new) (under (codes "method") new) o (under (codes "key") old) (under (codes "body") old)) r) (same (codes "path") refl)
      (subst (λ (o : Option Tree). ReadsAs content_seen (ContentOf lowest (under (codes "now") new) (under (codes "caller") new) (under (codes "phase") new) (under (codes "method") new) (under (codes "path") new) o (under (codes "body") old)) r) (same (codes "key") refl)
      (subst (λ (o : Option Tree). ReadsAs content_seen (ContentOf lowest (under (codes "now") new) (under (codes "caller") new) (under (codes "phase") new) (under (codes "method") new) (under (codes "path") new) (under (codes "key") new) o) r) is p))))))
