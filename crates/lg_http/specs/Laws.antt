-- A law about messages.
use Rattle.std.specs.Prelude.{◌≡◌, ℕ, List}
use Rattle.lg_http.specs.Messages.{Message, IsMessage}

-- bytes begin with one message at most, and one rest stands behind it
abbrev pub OneMessage : Type 0
OneMessage =
    (limit : List ℕ → List ℕ → ℕ) (bytes : List ℕ) (first second : Message) (rest behind : List ℕ)
    → IsMessage limit bytes first rest → IsMessage limit bytes second behind → (first ≡ second) × (rest ≡ behind)
