-- The words of the theorem about views: what a reader takes from the bytes, and when that shows a wire book.
use Rattle.std.specs.Prelude.{◌≡◌, List, [], ◌∷◌, map, ℕ, ◌+◌, ◌*◌, ◌<◌, get_or, take, drop}
use Rattle.port_tables.specs.Lists.{range, Member, Once, Rising}
use Rattle.port_tables.specs.declared.direction.Direction.{Direction}
use Rattle.port_tables.specs.declared.direction.Direction.TheVariants.{Incoming, Outgoing}
use Rattle.port_tables.specs.Places.{Place, Wire, spot}
use Rattle.theorems.specs.Book.{Block, Book, spot_of}

-- What is read: blocks, and wires by their ends.

pub record ShownBlock : Type 0 where
  pub node : ℕ
  pub incoming : ℕ
  pub outgoing : ℕ
  pub first : ℕ

pub record ShownEnd : Type 0 where
  pub port : ℕ
  pub offset : ℕ
  pub node : ℕ
  pub position : ℕ

-- the outgoing end, and the incoming one
pub record ShownWire : Type 0 where
  pub out : ShownEnd
  pub into : ShownEnd

pub record Shown : Type 0 where
  pub blocks : List ShownBlock
  pub wires : List ShownWire

-- Reading: four numbers at a time, what is left over is not read.

unfoldable pub fours : {A : Type 0} → (ℕ → ℕ → ℕ → ℕ → A) → List ℕ → List A
fours f [] = []
fours f (a ∷ []) = []
fours f (a ∷ b ∷ []) = []
fours f (a ∷ b ∷ c ∷ []) = []
fours f (a ∷ b ∷ c ∷ d ∷ l) = f a b c d ∷ fours f l

-- a word of four bytes, the least significant first
abbrev pub word_of : ℕ → ℕ → ℕ → ℕ → ℕ
word_of a b c d = a + 256 * b + 65536 * c + 16777216 * d

abbrev pub shown_block : ℕ → ℕ → ℕ → ℕ → ShownBlock
shown_block a b c d = record { node = a; incoming = b; outgoing = c; first = d }

abbrev pub shown_end : ℕ → ℕ → ℕ → ℕ → ShownEnd
shown_end a b c d = record { port = a; offset = b; node = c; position = d }

-- two ends at a time are a wire
unfoldable pub wires_of : List ShownEnd → List ShownWire
wires_of [] = []
wires_of (x ∷ []) = []
wires_of (x ∷ y ∷ l) = record { out = x; into = y } ∷ wires_of l

-- the first two words say how many blocks and wires follow
unfoldable pub words_read : List ℕ → Shown
words_read words =
    record {
      blocks = fours shown_block (take (4 * get_or words 0 0) (drop 2 words));
      wires = wires_of (fours shown_end (take (8 * get_or words 1 0) (drop (4 * get_or words 0 0) (drop 2 words))));
    }

unfoldable pub view_read : List ℕ → Shown
view_read bytes = words_read (fours word_of bytes)

-- What is read, and a book.

-- a block of the book: its number, and its ports in one row from the first on, the incoming ones before the outgoing ones
abbrev pub ShownAs : Block → ShownBlock → Type 0
ShownAs b x = (b.node ≡ x.node) × (b.ins ≡ range x.first x.incoming) × (b.outs ≡ range (x.first + x.incoming) x.outgoing)

abbrev pub place_shown : Direction → ShownEnd → Place
place_shown d e = record { node = e.node; side = d; pos = e.position; offset = e.offset }

abbrev pub wire_shown : ShownWire → Wire
wire_shown x = record { out = place_shown Outgoing x.out; into = place_shown Incoming x.into }

-- the blocks are the book's, each once, by ascending number; the wires are the book's, each once; and the port of an end is the book's port at its place
pub record Shows (B : Book) (v : Shown) : Type 0 where
  pub ascending : Rising ◌<◌ (map (λ (x : ShownBlock). x.node) v.blocks)
  pub blocks_only : (x : ShownBlock) → Member x v.blocks → (b : Block) × Member b B.blocks × ShownAs b x
  pub blocks_all : (b : Block) → Member b B.blocks → (x : ShownBlock) × Member x v.blocks × ShownAs b x
  pub wires_once : Once (map wire_shown v.wires)
  pub wires_only : (w : Wire) → Member w (map wire_shown v.wires) → Member w B.wires
  pub wires_all : (w : Wire) → Member w B.wires → Member w (map wire_shown v.wires)
  pub out_port : (x : ShownWire) → Member x v.wires → spot_of B.blocks x.out.port ≡ spot x.out.node Outgoing x.out.position
  pub in_port : (x : ShownWire) → Member x v.wires → spot_of B.blocks x.into.port ≡ spot x.into.node Incoming x.into.position
