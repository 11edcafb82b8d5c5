-- Members of a list among those of another one: all, further ones, and with others around them.
use Rattle.std.proofs.Common.{◌≡◌, subst, inl, inr, List, ◌++◌}
use Rattle.std.specs.List.{Contains}
use Rattle.std.proofs.lemmas.List.Elements.{Contains-append_cases, Contains-append_left, Contains-append_right}
use Rattle.sled_core.specs.Among.{AreAmong}

pub among_all : {X : Type 0} (these : List X) → AreAmong these these
among_all these = λ x there. there

pub among_further : {X : Type 0} (these those all : List X) → AreAmong these those → AreAmong those all → AreAmong these all
among_further these those all first second = λ x there. second x (first x there)

-- the same ones
pub among_same : {X : Type 0} (these those : List X) → these ≡ those → AreAmong these those
among_same {X} these those same = λ x there. subst (λ (l : List X). Contains l x) same there

-- behind the same ones, and in front of others
pub among_behind : {X : Type 0} (front these those : List X) → AreAmong these those → AreAmong (front ++ these) (front ++ those)
among_behind front these those among = λ x there. elim (Contains-append_cases front these x there) [
  | inl before ↦ Contains-append_left front those x before
  | inr behind ↦ Contains-append_right front those x (among x behind)
]

pub among_before : {X : Type 0} (these those behind : List X) → AreAmong these those → AreAmong (these ++ behind) (those ++ behind)
among_before these those behind among = λ x there. elim (Contains-append_cases these behind x there) [
  | inl before ↦ Contains-append_left those behind x (among x before)
  | inr later ↦ Contains-append_right those behind x later
]
