-- Bytes begin with one message at most.
use Rattle.std.proofs.Common.{◌≡◌, ℕ, List, ◌++◌, length, take, drop, refl, sym, ap, ◌∙◌}
use Rattle.std.proofs.lemmas.List.{take_at, drop_at}
use Rattle.httparse.specs.Grammar.{RequestHead}
use Rattle.httparse.proofs.GrammarLemmas.{request_unique}
use Rattle.lg_heads.specs.Fields.{stated_length}
use Rattle.lg_heads.specs.Heads.{fields_of}
use Rattle.lg_http.specs.Laws.{OneMessage}
use Rattle.lg_http.specs.Messages.{message_of}

pub one_message : OneMessage
one_message limit bytes first second rest behind x y =
    let same = request_unique bytes x.head y.head (x.body ++ rest) (y.body ++ behind) x.whole.reads y.whole.reads in
    let lengths = sym x.framed.stated ∙ ap (λ (h : RequestHead). stated_length (fields_of h)) same.0 ∙ y.framed.stated in
    let count : length x.body ≡ length y.body = cc in
    let body : x.body ≡ y.body =
    sym (take_at x.body rest (length x.body) refl) ∙ ap (take (length x.body)) same.1 ∙ take_at y.body behind (length x.body) (sym count) in
    let tail : rest ≡ behind =
    sym (drop_at x.body rest (length x.body) refl) ∙ ap (drop (length x.body)) same.1 ∙ drop_at y.body behind (length x.body) (sym count) in (
      x.message_is ∙ ap (λ (h : RequestHead). message_of h x.body) same.0 ∙ ap (λ (b : List ℕ). message_of y.head b) body ∙ sym y.message_is,
      tail,
    )
