-- The letters of words, as ASCII has them.
use Rattle.std.specs.Prelude.{ℕ}

abbrev pub A : ℕ
A = 65

abbrev pub B : ℕ
B = 66

abbrev pub C : ℕ
C = 67

abbrev pub D : ℕ
D = 68

abbrev pub E : ℕ
E = 69

abbrev pub F : ℕ
F = 70

abbrev pub G : ℕ
G = 71

abbrev pub H : ℕ
H = 72

abbrev pub I : ℕ
I = 73

abbrev pub J : ℕ
J = 74

abbrev pub K : ℕ
K = 75

abbrev pub L : ℕ
L = 76

abbrev pub M : ℕ
M = 77

abbrev pub P : ℕ
P = 80

abbrev pub Q : ℕ
Q = 81

abbrev pub R : ℕ
R = 82

abbrev pub S : ℕ
S = 83

abbrev pub T : ℕ
T = 84

abbrev pub U : ℕ
U = 85

abbrev pub V : ℕ
V = 86

abbrev pub W : ℕ
W = 87

abbrev pub X : ℕ
X = 88

abbrev pub Y : ℕ
Y = 89

abbrev pub Z : ℕ
Z = 90

-- @ and ^, LinuxCNC's polar words
abbrev pub AT : ℕ
AT = 64

abbrev pub CARET : ℕ
CARET = 94
