-- The lead byte of a number tells of eight further ones at most, and a header has three numbers.
use Rattle.sled_codec.specs.SpellingLaws.{length-short_number, length-number}
use Rattle.sled_codec.specs.HeaderLaws.{length-message_header}
use Rattle.sled_codec.proofs.serialization.laws.lengths.Goals as goal

pub returns-clause-written : goal.returns-clause-written
returns-clause-written c = length-short_number

pub returns-clause-read : goal.returns-clause-read
returns-clause-read c = length-number

pub returns-clause-header : goal.returns-clause-header
returns-clause-header c = length-message_header
