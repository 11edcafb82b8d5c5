-- The record with which bytes begin is the one that the header at their front announces.
use Rattle.std.proofs.Common.{◌≡◌, ◌≤◌, ◌+◌, ◌-◌, ◌∙◌, ℕ, List, ◌++◌, length, take, drop, refl, sym, ap, subst, arith, append_assoc, length-append, length-take, length-drop, Option, Some, None, Result, Ok, Err}
use Rattle.std.specs.Result.{IfOk}
use Rattle.std.proofs.lemmas.List.{take-append-drop, take_at, take_rest}
use Rattle.sled_codec.specs.declared.serialization.message.MessageHeader.{MessageHeader}
use Rattle.sled_codec.specs.declared.serialization.message.MessageKind.{MessageKind}
use Rattle.sled_codec.specs.HeaderLaws.{one_value-header, no_front-header, length-message_header}
use Rattle.sled_codec.specs.Places.{part}
use Rattle.sled_codec.specs.Record.{IsRecord}
use Rattle.sled_codec.specs.Spelling.{SpellsMessageHeader}
use Rattle.sled_codec.specs.SpellingLaws.{same_rests}
use Rattle.sled_codec.specs.Sums.{flipped}
use Rattle.sled_store.specs.Readers.{BeginsAt}
use Rattle.sled_oracle.specs.OwnParts.{FindsRecord}

record_along : (sum : List ℕ → ℕ) (number : ℕ) (a b : List ℕ) (k k' : MessageKind) (page page' : ℕ) (body body' : List ℕ) → a ≡ b → k ≡ k' → page ≡ page' → body ≡ body' → IsRecord sum a k page number body → IsRecord sum b k' page' number body'
record_along sum number a b k k' page page' body body' texts kinds pages bodies r =
    subst (λ (l : List ℕ). IsRecord sum b k' page' number l) bodies
    (subst (λ n. IsRecord sum b k' n number body) pages
    (subst (λ (x : MessageKind). IsRecord sum b x page number body) kinds
    (subst (λ (l : List ℕ). IsRecord sum l k page number body) texts r)))

-- bytes that begin with a record begin with its header
pub header_in_front : (sum : List ℕ → ℕ) (number : ℕ) (bytes : List ℕ) (n : ℕ) (b : BeginsAt sum number bytes 0 n) → bytes ≡ b.is.header ++ (b.body ++ drop n bytes)
header_in_front sum number bytes n b = sym (take-append-drop n bytes) ∙ ap (λ (l : List ℕ). l ++ drop n bytes) b.is.is ∙ append_assoc b.is.header b.body (drop n bytes)

module _ (sum : List ℕ → ℕ) (number : ℕ) (bytes front rest : List ℕ) (h : MessageHeader) (spelled : SpellsMessageHeader front h) (taken : bytes ≡ front ++ rest) where
  module _ (n : ℕ) (b : BeginsAt sum number bytes 0 n) where
    heads : front ++ rest ≡ b.is.header ++ (b.body ++ drop n bytes)
    heads = sym taken ∙ header_in_front sum number bytes n b

    same_front : front ≡ b.is.header
    same_front = no_front-header front b.is.header rest (b.body ++ drop n bytes) _ _ spelled b.is.spelled heads

    value : h ≡ record { crc32 = flipped (sum (b.body ++ drop 4 b.is.header)); kind = b.kind; segment_number = record { 0 = number }; pid = b.page; len = length b.body }
    value = one_value-header b.is.header _ _ (rw same_front at spelled) b.is.spelled

    rests : rest ≡ b.body ++ drop n bytes
    rests = same_rests front b.is.header _ _ same_front heads

    lens : h.len ≡ length b.body
    lens = ap (λ (x : MessageHeader). x.len) value

    -- the body that the header announces is there
    pub body_inside : h.len ≤ length rest
    body_inside = omega (arith, lens, ap length rests, length-append b.body (drop n bytes))

    whole : length bytes - length rest + h.len ≡ n
    whole =
        let inside = b.inside in
        omega (arith, lens, inside, ap length taken, length-append front rest, ap length same_front, ap length b.is.is, length-append b.is.header b.body, length-take n bytes)

    -- and with it the header is a record
    pub record_there : IsRecord sum (take (length bytes - length rest + h.len) bytes) h.kind h.pid number (take h.len rest)
    record_there = record_along sum number (part bytes 0 n) _ b.kind h.kind b.page h.pid b.body _
        (ap (λ k. take k bytes) (sym whole))
        (sym (ap (λ (x : MessageHeader). x.kind) value))
        (sym (ap (λ (x : MessageHeader). x.pid) value))
        (sym (ap (λ k. take k rest) lens ∙ ap (take (length b.body)) rests ∙ take_at b.body (drop n bytes) (length b.body) refl))
        b.is

  -- a record that is found there begins there
  pub found_there : (kind : MessageKind) (page : ℕ) (body : List ℕ) → h.len ≤ length rest → IsRecord sum (take (length bytes - length rest + h.len) bytes) kind page number body → BeginsAt sum number bytes 0 (length bytes - length rest + h.len)
  found_there kind page body inside r =
      let some = length-message_header front h spelled in
      record {
        kind = kind;
        page = page;
        body = body;
        is = r;
        some = omega (arith, some.0, ap length taken, length-append front rest);
        inside = omega (arith, inside, ap length taken, length-append front rest);
      }

-- What begins at an offset of a text begins the rest of it.
module _ (sum : List ℕ → ℕ) (number : ℕ) (text : List ℕ) (at : ℕ) where
  record_behind : (len : ℕ) → BeginsAt sum number (drop at text) 0 len → BeginsAt sum number text at len
  record_behind len b =
      let inside = b.inside in
      let some = b.some in
      record { kind = b.kind; page = b.page; body = b.body; is = b.is; some = b.some; inside = omega (arith, inside, some, length-drop at text) }

  record_in_rest : (len : ℕ) → BeginsAt sum number text at len → BeginsAt sum number (drop at text) 0 len
  record_in_rest len b =
      let inside = b.inside in
      record { kind = b.kind; page = b.page; body = b.body; is = b.is; some = b.some; inside = omega (arith, inside, length-drop at text) }

  finds_behind : (o : Option ℕ) → FindsRecord sum number (drop at text) 0 o → FindsRecord sum number text at o
  finds_behind None none = λ len b. none len (record_in_rest len b)
  finds_behind (Some len) b = record_behind len b

  -- So what is found in the rest is found in the text.
  pub found_behind : {E : Type 0} (r : Result (Option ℕ) E) → IfOk r (FindsRecord sum number (take (length text - at) (drop at text)) 0) → IfOk r (FindsRecord sum number text at)
  found_behind (Ok o) found = finds_behind o (subst (λ (l : List ℕ). FindsRecord sum number l 0 o) (take_rest text at) found)
  found_behind (Err e) found = found
