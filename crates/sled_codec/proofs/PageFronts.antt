-- What is written for a page, and what a decoder of pages takes off the front of a text.
use Rattle.std.proofs.Common.{◌≡◌, ◌∙◌, sym, ap, ℕ, ℤ, ◌+◌, ◌-◌, ◌^◌, ◌<◌, ◌≤◌, ◌≢◌, List, [], ◌∷◌, ◌++◌, length, map, refl, arith, append_assoc, length-append}
use Rattle.std.specs.List.{flat_map}
use Rattle.std.proofs.lemmas.List.{map-id}
use Rattle.sled_codec.specs.declared.result.DiskPtr.{DiskPtr}
use Rattle.sled_codec.specs.Spelling.{SpellsByte, SpellsSigned, SpellsPointer, SpellsPair, SpellsEach, FitsEach, short_signed, short_pointer}
use Rattle.sled_codec.specs.Snapshots.{Entry, Page, Present, Free, Uninitialized, SpellsEntry, FitsEntry, short_entry, SpellsPage, FitsPage, short_page}
use Rattle.sled_codec.specs.SnapshotLaws.{no_front-entry, length-short_entry, length-short_entries}
use Rattle.sled_codec.specs.SpellingLaws.{same_rests}
use Rattle.sled_codec.proofs.HeaderFronts.{Takes}
use Rattle.sled_codec.proofs.PointerFronts.{taken_byte, tagged_front}

-- entries as a loop over them sees them
pub as_seen : (es fs : List Entry) → es ≡ fs → map (λ (e : Entry). e) es ≡ fs
as_seen es fs is = map-id es ∙ is

pub length-short_present : (base : Entry) (frags : List Entry) → length (short_page (Present base frags)) ≡ 1 + length (short_entry base) + length (flat_map short_entry frags)
length-short_present base frags = omega (arith, length-append (short_entry base) (flat_map short_entry frags))

pub length-short_free : (place : ℤ) (pointer : DiskPtr) → length (short_page (Free place pointer)) ≡ 1 + length (short_signed place) + length (short_pointer pointer)
length-short_free place pointer = omega (arith, length-append (short_signed place) (short_pointer pointer))

-- the Links of a page that has a spelling have few bytes
pub frags_small : (base : Entry) (frags : List Entry) → FitsPage (Present base frags) → length (flat_map short_entry frags) ≤ 8890
frags_small base frags fits = omega (arith, length-short_entries frags fits.2, fits.0)

pub base_small : (base : Entry) (frags : List Entry) → FitsPage (Present base frags) → length (short_entry base) ≤ 35
base_small base frags fits = length-short_entry base fits.1

pub frags_fit : (base : Entry) (frags : List Entry) → FitsPage (Present base frags) → FitsEach FitsEntry short_entry frags
frags_fit base frags fits = let few = frags_small base frags fits in (fits.2, omega (arith, few))

-- A byte was taken off a text that begins with a page: it is that page's.
module _ (text t1 front rest : List ℕ) (code : ℕ) (byte : Takes SpellsByte text code t1) (is : text ≡ front ++ rest) where
  same_text : (tail : List ℕ) (tag : ℕ) → front ≡ tag ∷ tail → code ∷ t1 ≡ tag ∷ (tail ++ rest)
  same_text tail tag tagged = sym (taken_byte text t1 code byte) ∙ tagged_front text front rest tail tag is tagged

  same_byte : (tail : List ℕ) (tag : ℕ) → front ≡ tag ∷ tail → code ≡ tag
  same_byte tail tag tagged = let both = same_text tail tag tagged in cc

  same_left : (tail : List ℕ) (tag : ℕ) → front ≡ tag ∷ tail → t1 ≡ tail ++ rest
  same_left tail tag tagged = let both = same_text tail tag tagged in cc

  -- behind 0 there has to be a place and a pointer
  pub no_free : code ≡ 0 → ((f r : List ℕ) (v : ℤ × DiskPtr) → t1 ≡ f ++ r → SpellsPair SpellsSigned SpellsPointer f v.0 v.1 → ⊥) → (v : Page) → SpellsPage front v → ⊥
  no_free zero none (Free place pointer) p = none p.rest rest (place, pointer) (same_left p.rest 0 p.is) p.spelled
  no_free zero none (Present base frags) p = absurd (omega (arith, zero, same_byte p.1.rest (1 + length frags) p.1.is))
  no_free zero none Uninitialized p = absurd p

  -- behind another byte an entry
  pub no_base : code ≢ 0 → ((f r : List ℕ) (e : Entry) → t1 ≡ f ++ r → SpellsEntry f e → ⊥) → (v : Page) → SpellsPage front v → ⊥
  no_base some none (Free place pointer) p = some (same_byte p.rest 0 p.is)
  no_base some none (Present base frags) p =
      let entries = p.1.spelled in
      none entries.first (entries.second ++ rest) base (same_left p.1.rest (1 + length frags) p.1.is ∙ ap (λ (l : List ℕ). l ++ rest) entries.is ∙ append_assoc entries.first entries.second rest) entries.front
  no_base some none Uninitialized p = absurd p

  -- and as many further ones as the byte tells
  pub no_frags : (t2 : List ℕ) (e : Entry) → code ≢ 0 → Takes SpellsEntry t1 e t2 → ((f r : List ℕ) (es : List Entry) → length es ≡ code - 1 → t2 ≡ f ++ r → SpellsEach SpellsEntry f es → ⊥) → (v : Page) → SpellsPage front v → ⊥
  no_frags t2 e some one none (Free place pointer) p = some (same_byte p.rest 0 p.is)
  no_frags t2 e some (f, spelled, taken) none (Present base frags) p =
      let entries = p.1.spelled in
      let counts = same_byte p.1.rest (1 + length frags) p.1.is in
      let both : f ++ t2 ≡ entries.first ++ (entries.second ++ rest) = sym taken ∙ same_left p.1.rest (1 + length frags) p.1.is ∙ ap (λ (l : List ℕ). l ++ rest) entries.is ∙ append_assoc entries.first entries.second rest in
      let same : f ≡ entries.first = no_front-entry f entries.first _ _ e base spelled entries.front both in
      none entries.second rest frags (omega (arith, counts)) (same_rests f entries.first t2 (entries.second ++ rest) same both) entries.back
  no_frags t2 e some one none Uninitialized p = absurd p

-- without a byte there is no page
pub no_byte : (text : List ℕ) → ((f r : List ℕ) (n : ℕ) → text ≡ f ++ r → SpellsByte f n → ⊥) → (front rest : List ℕ) (v : Page) → text ≡ front ++ rest → SpellsPage front v → ⊥
no_byte text none front rest (Free place pointer) is p = none (0 ∷ []) (p.rest ++ rest) 0 (tagged_front text front rest p.rest 0 is p.is) (record { is = refl; small = omega arith })
no_byte text none front rest (Present base frags) is p =
    let tag = 1 + length frags in
    let few : tag < 2 ^ 8 = omega (arith, p.0) in
    none (tag ∷ []) (p.1.rest ++ rest) tag (tagged_front text front rest p.1.rest tag is p.1.is) (record { is = refl; small = few })
no_byte text none front rest Uninitialized is p = absurd p

-- the byte, an entry and as many further ones as it tells are a page
pub takes_present : (text t1 t2 t3 : List ℕ) (code : ℕ) (base : Entry) (frags : List Entry) → Takes SpellsByte text code t1 → code < 256 → code ≢ 0 → Takes SpellsEntry t1 base t2 → Takes (SpellsEach SpellsEntry) t2 frags t3 → length frags ≡ code - 1 → Takes SpellsPage text (Present base frags) t3
takes_present text t1 t2 t3 code base frags byte small some (f, spelled, taken) (h, others, behind) long =
    let tag : code ≡ 1 + length frags = omega (arith, long, some) in (
      (1 + length frags) ∷ (f ++ h),
      (omega (arith, small, tag), record { rest = f ++ h; spelled = record { first = f; second = h; front = spelled; back = others; is = refl }; is = refl }),
      taken_byte text t1 code byte ∙ ap (λ n. n ∷ t1) tag ∙ ap (λ (l : List ℕ). (1 + length frags) ∷ l) (taken ∙ ap (λ (l : List ℕ). f ++ l) behind ∙ sym (append_assoc f h t3)),
    )
