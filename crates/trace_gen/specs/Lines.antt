-- The lines of a generated trace, each as its words. The threads are numbered from 0.
use Rattle.std.specs.Prelude.{ℕ, ◌+◌, ◌*◌, ◌/◌, ◌%◌, ◌^◌, ◌==◌, List, [], ◌∷◌, ◌++◌, if◌then◌else◌, codes}
use Rattle.std.specs.List.{flat_map}
use Rattle.std.specs.Fmt.{decimal}

-- the words of a line
abbrev pub Words : Type 0
Words = List (List ℕ)

-- the words with one space between any two, and a line feed behind
abbrev pub line_text : Words → List ℕ
line_text [] = 10 ∷ []
line_text (word ∷ []) = word ++ 10 ∷ []
line_text (word ∷ next ∷ words) = word ++ 32 ∷ line_text (next ∷ words)

abbrev pub lines_text : List Words → List ℕ
lines_text lines = flat_map line_text lines

-- ---- what stands before the calls

abbrev pub header : List Words
header = (codes "angle-trace" ∷ codes "1" ∷ [])
    ∷ (codes "thread" ∷ codes "0" ∷ codes "group" ∷ codes "0" ∷ [])
    ∷ (codes "thread" ∷ codes "1" ∷ codes "group" ∷ codes "0" ∷ [])
    ∷ (codes "thread" ∷ codes "2" ∷ codes "group" ∷ codes "1" ∷ [])
    ∷ (codes "thread" ∷ codes "3" ∷ codes "group" ∷ codes "1" ∷ [])
    ∷ (codes "begin" ∷ [])
    ∷ []

-- ---- what a thread does first

-- its context
unfoldable pub context_lines : ℕ → List Words
context_lines t = (decimal t ∷ codes "ecreate" ∷ decimal (t + 1) ∷ [])
    ∷ (decimal t ∷ codes "ecurrent" ∷ decimal (t + 1) ∷ [])
    ∷ []

-- its first buffer, of 256 bytes that rise from the thread's number
unfoldable pub source_lines : ℕ → List Words
source_lines t = (decimal t ∷ codes "bind" ∷ codes "copy_read" ∷ decimal (2 * t + 1) ∷ [])
    ∷ (decimal t ∷ codes "bdata" ∷ codes "copy_read" ∷ codes "256" ∷ codes "dynamic_draw" ∷ (codes "%256," ++ (decimal t ++ codes ",1")) ∷ [])
    ∷ []

-- its second buffer, of 256 zeros
unfoldable pub target_lines : ℕ → List Words
target_lines t = (decimal t ∷ codes "bind" ∷ codes "copy_write" ∷ decimal (2 * t + 2) ∷ [])
    ∷ (decimal t ∷ codes "bdata" ∷ codes "copy_write" ∷ codes "256" ∷ codes "dynamic_draw" ∷ codes "%256,0,0" ∷ [])
    ∷ []

-- its texture and its renderbuffer, of 32 by 32 texels
unfoldable pub image_lines : ℕ → List Words
image_lines t = (decimal t ∷ codes "bind" ∷ codes "texture" ∷ decimal (t + 1) ∷ [])
    ∷ (decimal t ∷ codes "tstorage" ∷ codes "1" ∷ codes "rgba8ui" ∷ codes "32" ∷ codes "32" ∷ [])
    ∷ (decimal t ∷ codes "bind" ∷ codes "renderbuffer" ∷ decimal (t + 1) ∷ [])
    ∷ (decimal t ∷ codes "rstorage" ∷ codes "rgba8ui" ∷ codes "32" ∷ codes "32" ∷ [])
    ∷ []

-- its first framebuffer, which has the renderbuffer
unfoldable pub first_framebuffer_lines : ℕ → List Words
first_framebuffer_lines t = (decimal t ∷ codes "bind" ∷ codes "framebuffer" ∷ codes "1" ∷ [])
    ∷ (decimal t ∷ codes "attach" ∷ codes "framebuffer" ∷ codes "c0" ∷ codes "renderbuffer" ∷ decimal (t + 1) ∷ [])
    ∷ (decimal t ∷ codes "clearu" ∷ codes "0" ∷ codes "1" ∷ codes "2" ∷ codes "3" ∷ codes "4" ∷ [])
    ∷ []

-- its second framebuffer, which has the texture and is drawn to
unfoldable pub second_framebuffer_lines : ℕ → List Words
second_framebuffer_lines t = (decimal t ∷ codes "bind" ∷ codes "draw_fb" ∷ codes "2" ∷ [])
    ∷ (decimal t ∷ codes "attach" ∷ codes "draw_fb" ∷ codes "c0" ∷ codes "texture" ∷ decimal (t + 1) ∷ [])
    ∷ (decimal t ∷ codes "clearu" ∷ codes "0" ∷ codes "0" ∷ codes "0" ∷ codes "0" ∷ codes "0" ∷ [])
    ∷ []

unfoldable pub first_lines : ℕ → List Words
first_lines t = context_lines t ++ source_lines t ++ target_lines t ++ image_lines t ++ first_framebuffer_lines t ++ second_framebuffer_lines t

-- ---- what a thread does in a round

-- writes 16 bytes into its first buffer
unfoldable pub update_lines : ℕ → ℕ → ℕ → List Words
update_lines t a b = (decimal t ∷ codes "bsub" ∷ codes "copy_read" ∷ decimal a ∷ (codes "%16," ++ (decimal b ++ codes ",1")) ∷ []) ∷ []

-- copies 8 bytes from its first buffer to its second
unfoldable pub copy_lines : ℕ → ℕ → ℕ → List Words
copy_lines t a b = (decimal t ∷ codes "bcopy" ∷ codes "copy_read" ∷ codes "copy_write" ∷ decimal a ∷ decimal b ∷ codes "8" ∷ []) ∷ []

-- writes 4 by 4 texels into its texture
unfoldable pub texels_lines : ℕ → ℕ → ℕ → List Words
texels_lines t a b = (decimal t ∷ codes "tsub" ∷ decimal b ∷ decimal b ∷ codes "4" ∷ codes "4" ∷ codes "rgba_integer" ∷ codes "unsigned_byte" ∷ (codes "%64," ++ (decimal a ++ codes ",1")) ∷ []) ∷ []

-- clears its texture
unfoldable pub clear_lines : ℕ → ℕ → List Words
clear_lines t b = (decimal t ∷ codes "clearu" ∷ codes "0" ∷ decimal b ∷ decimal b ∷ decimal b ∷ decimal b ∷ []) ∷ []

-- copies a part of its renderbuffer to its texture
unfoldable pub blit_lines : ℕ → ℕ → List Words
blit_lines t b = (decimal t ∷ codes "blit" ∷ codes "0" ∷ codes "0" ∷ codes "16" ∷ codes "16" ∷ decimal b ∷ decimal b ∷ codes "32" ∷ codes "32" ∷ codes "color" ∷ codes "nearest" ∷ []) ∷ []

-- reads 2 by 2 texels of its texture
unfoldable pub read_lines : ℕ → ℕ → List Words
read_lines t b = (decimal t ∷ codes "bind" ∷ codes "read_fb" ∷ codes "2" ∷ [])
    ∷ (decimal t ∷ codes "readpix" ∷ decimal b ∷ decimal b ∷ codes "2" ∷ codes "2" ∷ codes "rgba_integer" ∷ codes "unsigned_byte" ∷ codes "client" ∷ [])
    ∷ (decimal t ∷ codes "bind" ∷ codes "read_fb" ∷ codes "1" ∷ [])
    ∷ []

-- one of the six, by the kind of the word
abbrev pub chosen_lines : ℕ → ℕ → ℕ → ℕ → List Words
chosen_lines t a b kind =
    if kind == 0 then update_lines t a b
    else if kind == 1 then copy_lines t a b
    else if kind == 2 then texels_lines t a b
    else if kind == 3 then clear_lines t b
    else if kind == 4 then blit_lines t b
    else read_lines t b

-- what the thread does at a word
unfoldable pub drawn_lines : ℕ → ℕ → List Words
drawn_lines t word = chosen_lines t (word / 2 ^ 8 % 240) (word / 2 ^ 16 % 16) (word % 6)

-- ---- what a thread does last

-- reads its second buffer
unfoldable pub last_lines : ℕ → List Words
last_lines t = (decimal t ∷ codes "finish" ∷ [])
    ∷ (decimal t ∷ codes "bmap" ∷ codes "copy_write" ∷ codes "0" ∷ codes "256" ∷ codes "r" ∷ [])
    ∷ (decimal t ∷ codes "mread" ∷ codes "copy_write" ∷ codes "0" ∷ codes "256" ∷ [])
    ∷ (decimal t ∷ codes "bunmap" ∷ codes "copy_write" ∷ [])
    ∷ []
