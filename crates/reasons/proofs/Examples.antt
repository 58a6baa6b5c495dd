-- Lines worked out by the definitions. That no second line meets a contract here, `one-laid` of `ascii` says.
-- Assumes nothing.
use mathlib.Core.Path.{◌≡◌, refl}
use lib.IntN.{pos}
use Rattle.base.specs.Tests.{pick}
use Rattle.ascii.specs.Text.{bytes_of}
use Rattle.ascii.specs.Decimals.{digits_of, decimal}
use Rattle.reasons.specs.Reasons.{reason_table, words_in, reason_words, error_number, reason_line, unread_line, unwritten_line}

pub folder-unread : unread_line (bytes_of "scores") (pos 21) ≡ bytes_of "scores: can't be read: a folder\n"
unfolding unread_line reason_line reason_words reason_table words_in error_number pick
folder-unread = refl

pub disk-full : unwritten_line (bytes_of "a.bin") (pos 28) ≡ bytes_of "a.bin: can't be written: the disk is full\n"
unfolding unwritten_line reason_line reason_words reason_table words_in error_number pick
disk-full = refl

-- an error that has no row
pub socket-unread : unread_line (bytes_of "door") (pos 6) ≡ bytes_of "door: can't be read: error 6\n"
unfolding unread_line reason_line reason_words reason_table words_in error_number decimal digits_of pick
socket-unread = refl
