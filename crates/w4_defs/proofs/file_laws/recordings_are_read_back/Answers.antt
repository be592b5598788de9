use Rattle.w4_defs.proofs.RecordingLaws.{again_2}
use Rattle.w4_defs.proofs.DecodingLaws.{decoded_is_encoded, encoded_is_decoded, encodes_at_most_one, encoding_length, longest_encoding, one_encoding, rewritten_is_same}
use Rattle.w4_defs.proofs.file_laws.recordings_are_read_back.Goals as goal

pub returns-clause-decoded : goal.returns-clause-decoded
returns-clause-decoded c = encoded_is_decoded

pub returns-clause-encoded : goal.returns-clause-encoded
returns-clause-encoded c = decoded_is_encoded

pub returns-clause-at_most_one : goal.returns-clause-at_most_one
returns-clause-at_most_one c = encodes_at_most_one

pub returns-clause-one_encoding : goal.returns-clause-one_encoding
returns-clause-one_encoding c = one_encoding

pub returns-clause-again : goal.returns-clause-again
returns-clause-again c = again_2

pub returns-clause-rewritten : goal.returns-clause-rewritten
returns-clause-rewritten c = rewritten_is_same

pub returns-clause-length : goal.returns-clause-length
returns-clause-length c = encoding_length

pub returns-clause-longest : goal.returns-clause-longest
returns-clause-longest c = longest_encoding
