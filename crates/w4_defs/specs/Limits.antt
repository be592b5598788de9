-- The limits of files, recordings, sessions and films (project rules) that more than one definition may need.
-- A file is judged by its first bytes, one more than its limit.
use Rattle.std.specs.Prelude.{ℕ}

-- the bytes of a cart
abbrev pub cart_limit : ℕ
cart_limit = 65536

-- the bytes of a disk
abbrev pub disk_limit : ℕ
disk_limit = 1024

-- the frames of a recording
abbrev pub frame_limit : ℕ
frame_limit = 36000

-- the bytes of a recording: 47 of its header and counts, a whole disk, and 10 for each of the most frames
abbrev pub recording_limit : ℕ
recording_limit = 361071

-- the bytes of a font: 8 for each of 224 glyphs
abbrev pub font_size : ℕ
font_size = 1792

-- the bytes of a script, a log or a query
abbrev pub script_limit : ℕ
script_limit = 1048576

-- the bytes of a list of names
abbrev pub name_list_limit : ℕ
name_list_limit = 65536

-- the bytes of a line of a live session
abbrev pub live_line_limit : ℕ
live_line_limit = 1024

-- the kept places of a session, place 0 among them
abbrev pub kept_limit : ℕ
kept_limit = 1024

-- the images of a film
abbrev pub film_limit : ℕ
film_limit = 600
