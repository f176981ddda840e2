-- The body of an image: the lines of the memory in their order, 64 bytes a line and 64 lines a page.
use Rattle.std.specs.Prelude.{ℕ, ◌*◌, List, take, drop}
use Rattle.std.specs.List.{concat}
use Rattle.std.specs.Simd.{first_chunks}
use Rattle.line_memory.specs.declared.line.TheConstants.{LINE_BYTES}
use Rattle.save_image.specs.declared.page.TheConstants.{PAGE_LINES}

-- the bytes of lines, one line behind the other
abbrev pub bytes_of : List (List ℕ) → List ℕ
bytes_of lines = concat lines

-- the lines of a page of the body
abbrev pub lines_of_page : ℕ → List (List ℕ) → List (List ℕ)
lines_of_page page memory = take PAGE_LINES (drop (PAGE_LINES * page) memory)

-- the bytes of a page of the body
abbrev pub page_of : ℕ → List (List ℕ) → List ℕ
page_of page memory = bytes_of (lines_of_page page memory)

-- the first n lines of a row of bytes
abbrev pub lines_in : ℕ → List ℕ → List (List ℕ)
lines_in n bytes = first_chunks LINE_BYTES n bytes
