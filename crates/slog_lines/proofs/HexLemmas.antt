-- What digits write, byte by byte.
use Rattle.std.proofs.Common.{◌≡◌, ℕ, ◌+◌, ◌/◌, ◌%◌, ◌<◌, List, [], ◌∷◌, ◌++◌, All, suc, length, drop, get_or, ap, sym, ◌∙◌, append_assoc, add-one, drop-cons, refl, arith}
use Rattle.slog_lines.specs.Hex.{digit_of, digits_of, hex_of}

-- the digits of one more byte
pub digits-next : (bytes done : List ℕ) (i : ℕ) → i < length bytes → digits_of bytes ≡ done ++ digits_of (drop i bytes)
    → digits_of bytes ≡ (done ++ digit_of (get_or bytes i 0 / 16) ∷ digit_of (get_or bytes i 0 % 16) ∷ []) ++ digits_of (drop (i + 1) bytes)
digits-next bytes done i below so_far =
    rw add-one (so_far ∙ ap (λ (r : List ℕ). done ++ digits_of r) (drop-cons bytes i 0 below)
    ∙ sym (append_assoc done (digit_of (get_or bytes i 0 / 16) ∷ digit_of (get_or bytes i 0 % 16) ∷ []) (digits_of (drop (suc i) bytes))))

-- bytes are written by their digits, where there are any
pub hex-digits : (bytes : List ℕ) → 0 < length bytes → hex_of bytes ≡ digits_of bytes
hex-digits [] some = absurd (omega arith)
hex-digits (b ∷ bytes) some = refl

-- Where bytes are written by the digits of some, and more, that begins with the digits of a byte.
pub begins-with-byte : (bytes done rest : List ℕ) → All (λ x. x < 256) bytes → digits_of bytes ≡ digits_of done ++ rest → 0 < length rest
    → ((x : ℕ) (behind : List ℕ) → x < 256 → rest ≡ digit_of (x / 16) ∷ digit_of (x % 16) ∷ behind → ⊥) → ⊥
begins-with-byte [] [] rest all is some none = let e : length rest ≡ 0 = sym (ap length is) in omega arith
begins-with-byte [] (y ∷ done) rest all is some none = cc
begins-with-byte (x ∷ bytes) [] rest all is some none = none x (digits_of bytes) (all 0 0 (omega arith)) (sym is)
begins-with-byte (x ∷ bytes) (y ∷ done) rest all is some none =
    let e : digits_of bytes ≡ digits_of done ++ rest = cc in
    begins-with-byte bytes done rest (λ k d below. all (suc k) d (omega arith)) e some none

-- the digits of bytes, and those of one more
digits-snoc : (done : List ℕ) (b : ℕ) → digits_of (done ++ b ∷ []) ≡ digits_of done ++ digit_of (b / 16) ∷ digit_of (b % 16) ∷ []
digits-snoc [] b = refl
digits-snoc (x ∷ done) b = ap (λ (r : List ℕ). digit_of (x / 16) ∷ digit_of (x % 16) ∷ r) (digits-snoc done b)

-- A byte is taken off the front of the rest, and put behind the bytes.
pub digits-moved : (done rest behind text : List ℕ) (b : ℕ) → digits_of done ++ rest ≡ text
    → rest ≡ digit_of (b / 16) ∷ digit_of (b % 16) ∷ behind → digits_of (done ++ b ∷ []) ++ behind ≡ text
digits-moved done rest behind text b so_far is =
    rw (digits-snoc done b) (append_assoc (digits_of done) (digit_of (b / 16) ∷ digit_of (b % 16) ∷ []) behind
    ∙ ap (λ (r : List ℕ). digits_of done ++ r) (sym is) ∙ so_far)

-- Bytes whose text is no dash are written by their digits.
pub no-dash : (bytes text : List ℕ) → hex_of bytes ≡ text → (text ≡ 45 ∷ [] → ⊥) → digits_of bytes ≡ text
no-dash [] text is not_dash = absurd (not_dash (sym is))
no-dash (b ∷ bytes) text is not_dash = is
